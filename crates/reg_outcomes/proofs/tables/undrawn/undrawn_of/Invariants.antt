use Rattle.std.proofs.Common.{ℕ, ◌≤◌, List, take}
use Rattle.reg_outcomes.specs.PlayTables.{Seen}
use Rattle.reg_outcomes.specs.Counts.{IsCounted}
use Rattle.reg_outcomes.specs.Outcomes.{CountsUndrawn}
use Rattle.reg_outcomes.proofs.tables.undrawn.undrawn_of.Given as goal

-- how many of the outcomes so far no play had
abbrev pub invariant-loop-outcome : goal.invariant-loop-outcome
invariant-loop-outcome g l =
    ((plays : List Seen) (unfinished : ℕ) → IsCounted (λ v. v.items) plays l.told unfinished → CountsUndrawn plays (take l.outcome-index l.outcomes) l.undrawn) × (l.undrawn ≤ l.outcome-index)
