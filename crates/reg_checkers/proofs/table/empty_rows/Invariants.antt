use Rattle.std.proofs.Common.{◌≡◌, None, vec_len}
use Rattle.reg_base.specs.declared.memory.OpId.{OpId}
use Rattle.reg_checkers.specs.Table.{cell}
use Rattle.reg_checkers.proofs.table.empty_rows.Given as goal

abbrev pub invariant-loop-p : goal.invariant-loop-p
invariant-loop-p g l = record {
  len : vec_len l.rows ≡ l._p;
  none : (id : OpId) → cell l.rows.items id ≡ None;
}
