use Rattle.std.proofs.Common.{ℕ, ◌<◌}
use Rattle.reg_base.specs.declared.memory.OpId.{OpId}
use Rattle.reg_base.specs.declared.memory.Answer.{Answer}
use Rattle.reg_checkers.specs.declared.entries.Entry.TheVariants.{Answered}
use Rattle.reg_checkers.specs.History.{IsAt}
use Rattle.reg_checkers.specs.Table.{Marked}
use Rattle.reg_checkers.proofs.marks.has_missing.Given as goal

abbrev pub invariant-loop-i : goal.invariant-loop-i
invariant-loop-i g l =
    (j t : ℕ) (id : OpId) (a : Answer) → j < l.i → IsAt l.entries j (Answered t id a) → Marked l.rows id
