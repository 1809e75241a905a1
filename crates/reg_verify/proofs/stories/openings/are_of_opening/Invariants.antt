use Rattle.std.proofs.Common.{ℕ, ◌<◌}
use Rattle.reg_base.specs.declared.memory.Op.{Op}
use Rattle.reg_base.specs.declared.memory.OpId.{OpId}
use Rattle.reg_checkers.specs.declared.entries.Entry.TheVariants.{Called}
use Rattle.reg_checkers.specs.History.{IsAt}
use Rattle.reg_verify.specs.Opening.{IsOfOpening}
use Rattle.reg_verify.proofs.stories.openings.are_of_opening.Given as goal

-- those that were called so far are of the opening
abbrev pub invariant-loop-at : goal.invariant-loop-at
invariant-loop-at l =
    (k at : ℕ) (id : OpId) (op : Op) → k < l.at → IsAt l.entries k (Called at id op) → IsOfOpening l.writes id op
