-- The first answer that no point order explains is the earliest of those of the keys.
use Rattle.std.proofs.Common.{◌≡◌, ◌⊎◌, inl, inr, ℕ, ◌+◌, ◌<◌, ◌≤◌, List, Option, Some, None, IfSome, length, take, ap}
use Rattle.std.proofs.Common.{sym, ◌∙◌, subst, arith}
use Rattle.std.proofs.lemmas.Bool.{cases_eq}
use Rattle.std.proofs.lemmas.Option.{slice_get_within}
use Rattle.reg_base.specs.declared.memory.Answer.{Answer}
use Rattle.reg_base.specs.declared.memory.OpId.{OpId}
use Rattle.reg_checkers.specs.declared.entries.Entry.{Entry}
use Rattle.reg_checkers.specs.declared.entries.Entry.TheVariants.{Answered}
use Rattle.reg_checkers.specs.History.{IsAt, IsHistory, event_of}
use Rattle.reg_checkers.proofs.Noting.{history_front}
use Rattle.reg_checkers.proofs.Places.{element_at, same_at}
use Rattle.reg_judge.specs.Judging.{HasPointOrder, IsFirstUnexplained}
use Rattle.reg_judge.specs.Parts.{part_at}
use Rattle.reg_judge.proofs.Fronts.{front_has}
use Rattle.reg_judge.proofs.Locality.{all_together}
use Rattle.reg_judge.proofs.Unexplained.{none_up_to, part_before}
use Rattle.reg_judge.specs.declared.rulings.keys.Ruling.{Ruling}
use Rattle.reg_judge.specs.declared.rulings.keys.Ruling.TheVariants.{Linearizable, Not}
use Rattle.reg_judge.specs.declared.rulings.rows.Row.{Row}
use Rattle.reg_judge.specs.declared.rulings.seats.Naming.{Naming}
use Rattle.reg_judge.specs.declared.rulings.seats.Naming.TheVariants.{Own}
use Rattle.reg_judge.specs.Firsts.{AreRulingsOf, IsAnswerAt, IsEarlier, IsFirstNot, IsFirstTo}
use Rattle.reg_judge.specs.Keys.{rows_of_key}
use Rattle.reg_judge.specs.Rulings.{AreRuled, IsRuled}
use Rattle.reg_judge.specs.Standing.{IsStood}
use Rattle.reg_judge.proofs.Reporting.{history_stood}
use Rattle.reg_judge.proofs.Wholes.{part_alike}

-- one key more

pub first_none : (rulings : List Ruling) → IsFirstTo 0 rulings None
first_none rulings key t lt at = omega (arith, lt)

key_cases : (key i : ℕ) → key < i + 1 → (key < i) ⊎ (key ≡ i)
key_cases key i lt = elim (cases_eq key i) [ inl same ↦ inr same | inr apart ↦ inl (omega (arith, lt, apart)) ]

-- what stands there
ruling_there : (rulings : List Ruling) (i key t : ℕ) (ruling : Ruling) → IsAt rulings i ruling → key ≡ i
    → IsAt rulings key (Not t) → ruling ≡ Not t
ruling_there rulings i key t ruling here same at =
    same_at rulings i ruling (Not t) here (subst (λ (k : ℕ). IsAt rulings k (Not t)) same at)

not_same : (a b : ℕ) → Not a ≡ Not b → a ≡ b
not_same a b e = cc

pub first_more : (i : ℕ) (rulings : List Ruling) (ruling : Ruling) (found next : Option ℕ) → IsAt rulings i ruling
    → IsEarlier found ruling next → IsFirstTo i rulings found → IsFirstTo (i + 1) rulings next
first_more i rulings Linearizable found next here is before =
    subst (IsFirstTo (i + 1) rulings) (sym is) (go found before)
  where
    go : (o : Option ℕ) → IsFirstTo i rulings o → IsFirstTo (i + 1) rulings o
    go None none = λ key t lt at. elim (key_cases key i lt) [
      | inl less ↦ none key t less at
      | inr same ↦ absurd (let bad : Linearizable ≡ Not t = ruling_there rulings i key t Linearizable here same at in let no : ⊥ = cc in no)
    ]
    go (Some first) (there, least) = (
      there,
      λ key t lt at. elim (key_cases key i lt) [
        | inl less ↦ least key t less at
        | inr same ↦ absurd (let bad : Linearizable ≡ Not t = ruling_there rulings i key t Linearizable here same at in let no : ⊥ = cc in no)
      ],
    )
first_more i rulings (Not at) None next here is none = subst (IsFirstTo (i + 1) rulings) (sym is) (
  (i, here),
  λ key t lt there. elim (key_cases key i lt) [
    | inl less ↦ absurd (none key t less there)
    | inr same ↦ let e = not_same at t (ruling_there rulings i key t (Not at) here same there) in omega (arith, e)
  ],
)
first_more i rulings (Not at) (Some first) next here (inl (is, le)) (there, least) =
    subst (IsFirstTo (i + 1) rulings) (sym is) (
      there,
      λ key t lt at_key. elim (key_cases key i lt) [
        | inl less ↦ least key t less at_key
        | inr same ↦ let e = not_same at t (ruling_there rulings i key t (Not at) here same at_key) in omega (arith, e, le)
      ],
    )
first_more i rulings (Not at) (Some first) next here (inr (is, le)) (there, least) =
    subst (IsFirstTo (i + 1) rulings) (sym is) (
      (i, here),
      λ key t lt at_key. elim (key_cases key i lt) [
        | inl less ↦ let low = least key t less at_key in omega (arith, low, le)
        | inr same ↦ let e = not_same at t (ruling_there rulings i key t (Not at) here same at_key) in omega (arith, e)
      ],
    )

first_all : (i : ℕ) (rulings : List Ruling) (at : ℕ) → length rulings ≤ i → IsFirstTo i rulings (Some at)
    → IsFirstNot rulings at
first_all i rulings at le ((key, is), least) = record {
  key = key;
  is = is;
  least = λ other t there. (let inside = slice_get_within rulings other (Not t) there in least other t (omega (arith, inside, le)) there);
}

pub found_all : (i : ℕ) (rulings : List Ruling) (found : Option ℕ) → length rulings ≤ i → IsFirstTo i rulings found
    → IfSome found (IsFirstNot rulings)
found_all i rulings None le none = tt
found_all i rulings (Some at) le first = first_all i rulings at le first

-- The whole

module _ (naming : Naming) (processes registers : ℕ) (rows : List Row) (entries : List Entry) (stood : IsStood naming processes registers rows entries) (rulings : List Ruling) (are : AreRuled processes registers rows rulings) (at : ℕ) (first : IsFirstNot rulings at) (place : ℕ) (id : OpId) (answer : Answer) (here : IsAt entries place (Answered at id answer)) where
  none_to : (key : ℕ) → key < registers → IsRuled processes (rows_of_key key rows) (Not at) → ¬ HasPointOrder registers (take (place + 1) entries)
  none_to key fits (alone, s, (denied, (spot, unexplained, (e, there, is)))) =
      let (t, x, y, answered) = unexplained.answer in
      let same : t ≡ at = ap event_of (same_at alone spot (Answered t x y) e answered there) ∙ sym is in
      none_up_to stood.places registers entries stood.history key 0 1 s.places fits (omega arith) alone (part_alike naming processes registers rows entries stood key alone s) s.history place at id answer here spot x y unexplained
      (subst (λ (n : ℕ). IsAt alone spot (Answered n x y)) same answered)

  part_has : (key : ℕ) → key < registers → (ruling : Ruling) → IsAt rulings key ruling → IsRuled processes (rows_of_key key rows) ruling → HasPointOrder registers (part_at key (take place entries))
  part_has key fits Linearizable there (alone, s, order) =
      part_before stood.places registers entries stood.history key 0 1 s.places fits (omega arith) alone (part_alike naming processes registers rows entries stood key alone s) s.history place at id answer here (inl order)
  part_has key fits (Not event) there (alone, s, (denied, (spot, unexplained, (e, stands, is)))) =
      let (t, x, y, answered) = unexplained.answer in
      let same : t ≡ event = ap event_of (same_at alone spot (Answered t x y) e answered stands) ∙ sym is in
      let low = first.least key event there in
      part_before stood.places registers entries stood.history key 0 1 s.places fits (omega arith) alone (part_alike naming processes registers rows entries stood key alone s) s.history place at id answer here
      (inr (spot, t, x, y, unexplained, answered, omega (arith, low, same)))

  before_has : HasPointOrder registers (take place entries)
  before_has = all_together stood.places registers (take place entries) (history_front stood.places registers entries place stood.history) part
    where
      part : (key : ℕ) → key < registers → HasPointOrder registers (part_at key (take place entries))
      part key fits =
          let all = are.all in
          let found = element_at rulings key (omega (arith, fits, all)) in
          part_has key fits found.0 found.1 (are.each key found.0 found.1)

  none_here : ¬ HasPointOrder registers (take (place + 1) entries)
  none_here = (
      let inside = slice_get_within rulings first.key (Not at) first.is in
      let all = are.all in
      none_to first.key (omega (arith, inside, all)) (are.each first.key (Not at) first.is)
      )

  pub is_unexplained : (¬ HasPointOrder registers entries) × IsFirstUnexplained registers entries place
  is_unexplained = (
    λ order. none_here (front_has stood.places registers entries stood.history (place + 1) order),
    record { answer = (at, id, answer, here); none = none_here; before = before_has },
  )

pub unexplained : (processes registers : ℕ) (entries : List Entry) (rulings : List Ruling) (place : ℕ)
    → IsHistory processes registers entries → AreRulingsOf processes registers entries rulings
    → (at : ℕ) × IsFirstNot rulings at × IsAnswerAt entries at place
    → (¬ HasPointOrder registers entries) × IsFirstUnexplained registers entries place
unexplained processes registers entries rulings place good (rows, of, are) (at, first, (id, answer, here)) = is_unexplained Own processes registers rows entries (history_stood processes registers entries good rows of) rulings are at first place id answer here
