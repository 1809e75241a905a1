-- A serial order that keeps the real time, and points that were looked for.
use Rattle.std.proofs.Common.{ℕ, ◌≡◌, ◌↔◌, Bool, true, List, Option, Some, None, Result, Ok, Err, IfErr, Vec}
use Rattle.std.proofs.Common.{MatchOption, sym, ◌∙◌}
use Rattle.std.specs.Option.{is_some}
use Rattle.std.proofs.lemmas.Bool.{false≢true}
use Rattle.reg_base.specs.declared.memory.OpId.{OpId}
use Rattle.reg_checkers.specs.declared.entries.Entry.{Entry}
use Rattle.reg_checkers.specs.declared.entries.Point.{Point}
use Rattle.reg_checkers.specs.History.{IsHistory}
use Rattle.reg_checkers.specs.Orders.{IsPointOrder, IsSerial}
use Rattle.reg_outcomes.specs.Placing.{KeepsRealTime as StandsInTime}
use Rattle.reg_outcomes.proofs.Pointing.{has_points}
use Rattle.reg_world.specs.RealTime.{KeepsRealTime}
use Rattle.reg_outcomes.specs.Outcomes.{IsLinearizable}

pub in_time_is : (n registers : ℕ) (h : List Entry) → IsHistory n registers h → (ids : List OpId)
    → IsSerial registers h ids → KeepsRealTime h ids → IsLinearizable registers h
in_time_is n registers h good ids serial keeps =
    has_points n registers h good ids (record { serial = serial; time = time })
  where
    time : StandsInTime h ids
    time i id other at answered op answer here call ans lt =
        let there = serial.selection.finished other (answered, answer, ans) in
        (there.0, keeps there.0 i other id there.1 here (answered, at, answer, op, ans, call, lt), there.1)

-- where some were found, or there are none
pub found_is : {A : Type 0} (registers : ℕ) (h : List Entry) (o : Option (Vec Point A)) (b : Bool) → b ≡ is_some o
    → MatchOption o ((points : List Point) → ¬ IsPointOrder registers h points) (λ v. IsPointOrder registers h v.items)
    → (b ≡ true) ↔ IsLinearizable registers h
found_is registers h None b is none = (λ e. absurd (false≢true (sym is ∙ e)), λ points. absurd (none points.0 points.1))
found_is registers h (Some v) b is order = (λ e. (v.items, order), λ points. is)

-- what holds of each result holds of a refused one
pub whatever_fault : {T E : Type 0} (r : Result T E) (P : E → Type 0) (Q : Type 0) → Q → IfErr r (λ e. P e → Q)
whatever_fault (Ok x) P Q q = tt
whatever_fault (Err e) P Q q = λ _. q
