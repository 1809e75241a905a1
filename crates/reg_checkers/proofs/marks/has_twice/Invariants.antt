use Rattle.std.proofs.Common.{ℕ, IsSome}
use Rattle.reg_base.specs.declared.memory.OpId.{OpId}
use Rattle.reg_checkers.specs.History.{IsAt}
use Rattle.reg_checkers.specs.Table.{cell}
use Rattle.reg_checkers.proofs.Marking.{MarkedUpTo, DistinctUpTo}
use Rattle.reg_checkers.proofs.marks.has_twice.Given as goal

abbrev pub invariant-loop-k : goal.invariant-loop-k
invariant-loop-k g l = record {
  known : (k : ℕ) (id : OpId) → IsAt l.ids k id → IsSome (cell l.rows.items id);
  marked : MarkedUpTo l.rows.items l.ids l.k;
  distinct : DistinctUpTo l.ids l.k;
}
