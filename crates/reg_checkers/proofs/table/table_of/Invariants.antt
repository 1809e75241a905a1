use Rattle.std.proofs.Common.{◌≡◌, take, vec_len}
use Rattle.reg_checkers.specs.Table.{IsTable, IsUnmarked}
use Rattle.reg_checkers.proofs.table.table_of.Given as goal

abbrev pub invariant-loop-i : goal.invariant-loop-i
invariant-loop-i g l = record {
  len : vec_len l.rows ≡ l.shape.processes;
  table : IsTable (take l.i l.entries) l.rows.items;
  unmarked : IsUnmarked l.rows.items;
}
