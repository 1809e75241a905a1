use Rattle.std.proofs.Common.{take}
use Rattle.std.specs.List.{AllZip}
use Rattle.reg_judge.specs.Reported.{IsRowOf}
use Rattle.reg_judge.proofs.rulings.history_rows.rows_of.Given as goal

abbrev pub invariant-loop-entry : goal.invariant-loop-entry
invariant-loop-entry g l = AllZip (IsRowOf l.entries) (take l.entry-index l.entries) l.rows.items
