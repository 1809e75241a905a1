-- What is found out of each key agrees with the verdict on the whole.
use Rattle.std.proofs.Common.{◌≡◌, ◌↔◌, ℕ, ◌<◌, true, List, slice_get, Option, Some, None, refl, subst, arith}
use Rattle.std.specs.Prelude.{Vec, is_some}
use Rattle.reg_checkers.specs.declared.entries.Entry.{Entry}
use Rattle.reg_checkers.specs.declared.entries.Point.{Point}
use Rattle.reg_judge.specs.declared.rulings.keys.Ruling.{Ruling}
use Rattle.reg_judge.specs.declared.rulings.keys.Ruling.TheVariants.{Linearizable}
use Rattle.reg_judge.specs.declared.rulings.rows.Row.{Row}
use Rattle.reg_judge.specs.declared.rulings.seats.Naming.TheVariants.{Any}
use Rattle.reg_judge.specs.Rulings.{AreRuled}
use Rattle.reg_judge.specs.Standing.{IsStood}
use Rattle.reg_judge.proofs.Wholes.{each_is, whole_is}
use Rattle.reg_observed.specs.declared.judging.Verdict.{Verdict}
use Rattle.reg_observed.specs.Verdicts.{AreJudged, AreSought, registers_for}

sought_agrees : {A : Type 0} (processes keys : ℕ) (rows : List Row) (entries : List Entry) (rulings : List Ruling)
    (points : Option (Vec Point A))
    → IsStood Any processes keys rows entries → AreRuled processes keys rows rulings → AreSought keys entries points
    → (is_some points ≡ true) ↔ ((key : ℕ) (ruling : Ruling) → slice_get rulings key ≡ Some ruling → ruling ≡ Linearizable)
sought_agrees processes keys rows entries rulings (Some points) stood are order =
    ((λ _. each_is Any processes keys rows entries stood rulings are (points.items, order)), (λ _. refl))
sought_agrees processes keys rows entries rulings None stood are none =
    ((λ is. absurd cc), (λ each. absurd (none (whole_is Any processes keys rows entries stood rulings are each))))

as_many : (keys : ℕ) → 0 < keys → registers_for keys ≡ keys
as_many keys some = omega (arith, some)

pub verdict_agrees : {A : Type 0} (processes keys : ℕ) (rows : List Row) (v : Verdict A) → 0 < keys
    → AreJudged processes keys rows v
    → (is_some v.points ≡ true)
    ↔ ((key : ℕ) (ruling : Ruling) → slice_get v.keys.items key ≡ Some ruling → ruling ≡ Linearizable)
verdict_agrees processes keys rows v some judged =
    let same : registers_for keys ≡ keys = as_many keys some in
    sought_agrees processes keys rows v.history.entries v.keys.items v.points
    (subst (λ (n : ℕ). IsStood Any processes n rows v.history.entries) same judged.stands)
    judged.each
    (subst (λ (n : ℕ). AreSought n v.history.entries v.points) same judged.points)
