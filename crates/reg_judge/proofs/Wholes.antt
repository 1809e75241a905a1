-- What is found out of each key agrees with whether the whole has a point order.
use Rattle.std.proofs.Common.{◌≡◌, ◌↔◌, ℕ, ◌<◌, true, List, slice_get, Some, Result, Ok, Err, refl, subst, arith}
use Rattle.std.proofs.lemmas.Option.{slice_get_within}
use Rattle.std.specs.Result.{is_ok}
use Rattle.reg_checkers.specs.declared.entries.Entry.{Entry}
use Rattle.reg_checkers.specs.declared.entries.Point.{Point}
use Rattle.reg_checkers.proofs.Places.{element_at}
use Rattle.reg_judge.specs.Alike.{AreAlike}
use Rattle.reg_judge.specs.Judging.{HasPointOrder}
use Rattle.reg_judge.specs.Parts.{part_at}
use Rattle.reg_judge.proofs.Locality.{all_together, each_by_itself}
use Rattle.reg_judge.proofs.Renaming.{order_there, turned_alike}
use Rattle.reg_judge.specs.declared.rulings.keys.Ruling.{Ruling}
use Rattle.reg_judge.specs.declared.rulings.keys.Ruling.TheVariants.{Linearizable, Not}
use Rattle.reg_judge.specs.declared.rulings.rows.Row.{Row}
use Rattle.reg_judge.specs.declared.rulings.seats.Naming.{Naming}
use Rattle.reg_judge.specs.declared.rulings.seats.Naming.TheVariants.{Any}
use Rattle.reg_judge.specs.Keys.{rows_of_key}
use Rattle.reg_judge.specs.Rulings.{AreRuled, IsFound, IsRuled, RulesEntries}
use Rattle.reg_judge.specs.Standing.{IsStood}
use Rattle.reg_judge.proofs.Agreeing.{agree_alike, stood_agrees}

module _ (naming : Naming) (processes keys : ℕ) (rows : List Row) (entries : List Entry) (stood : IsStood naming processes keys rows entries) where
  pub part_alike : (key : ℕ) (alone : List Entry) → IsStood Any processes 1 (rows_of_key key rows) alone
      → AreAlike key 0 (part_at key entries) alone
  part_alike key alone s =
      agree_alike key stood.held (part_at key entries) s.held alone
      (stood_agrees naming Any processes key rows stood.held entries stood.places keys stood.stands stood.history (rows_of_key key rows) s.held alone s.stands refl s.places 1 s.history)

  linearizable : (alone : List Entry) (ruling : Ruling) → HasPointOrder 1 alone → RulesEntries alone ruling → ruling ≡ Linearizable
  linearizable alone Linearizable order rules = refl
  linearizable alone (Not at) order rules = absurd (rules.0 order)

  module _ (rulings : List Ruling) (are : AreRuled processes keys rows rulings) where
    pub each_is : HasPointOrder keys entries → (key : ℕ) (ruling : Ruling) → slice_get rulings key ≡ Some ruling → ruling ≡ Linearizable
    each_is order key ruling at = go (are.each key ruling at)
      where
        go : IsRuled processes (rows_of_key key rows) ruling → ruling ≡ Linearizable
        go (alone, s, rules) =
            let inside = slice_get_within rulings key ruling at in
            let all = are.all in
            let lt : key < keys = omega (arith, inside, all) in
            linearizable alone ruling (order_there keys 1 key 0 (part_at key entries) alone lt (omega arith) (part_alike key alone s) (each_by_itself stood.places keys entries stood.history order key lt)) rules

    pub whole_is : ((key : ℕ) (ruling : Ruling) → slice_get rulings key ≡ Some ruling → ruling ≡ Linearizable) → HasPointOrder keys entries
    whole_is each = all_together stood.places keys entries stood.history (λ key lt. part key lt)
      where
        part : (key : ℕ) → key < keys → HasPointOrder keys (part_at key entries)
        part key lt =
            let all = are.all in
            let found = element_at rulings key (omega (arith, lt, all)) in
            let ruled = are.each key found.0 found.1 in
            let order : HasPointOrder 1 ruled.0 = subst (λ (x : Ruling). RulesEntries ruled.0 x) (each key found.0 found.1) ruled.2 in
            order_there 1 keys 0 key ruled.0 (part_at key entries) (omega arith) lt (turned_alike key 0 (part_at key entries) ruled.0 (part_alike key ruled.0 ruled.1)) order

-- A point order is found exactly where each ruling says so.
pub found_agrees : (naming : Naming) (processes keys : ℕ) (rows : List Row) (entries : List Entry)
    (rulings : List Ruling) (found : Result (List Point) ℕ)
    → IsStood naming processes keys rows entries → AreRuled processes keys rows rulings → IsFound keys entries found
    → (is_ok found ≡ true) ↔ ((key : ℕ) (ruling : Ruling) → slice_get rulings key ≡ Some ruling → ruling ≡ Linearizable)
found_agrees naming processes keys rows entries rulings (Ok points) stood are order =
    ((λ _. each_is naming processes keys rows entries stood rulings are (points, order)), (λ _. refl))
found_agrees naming processes keys rows entries rulings (Err place) stood are none =
    ((λ is. absurd cc), (λ each. absurd (none.0 (whole_is naming processes keys rows entries stood rulings are each))))
