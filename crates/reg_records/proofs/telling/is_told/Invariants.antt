use Rattle.std.proofs.Common.{take}
use Rattle.reg_records.specs.Telling.{IsToldIn}
use Rattle.reg_records.proofs.telling.is_told.Given as goal

abbrev pub invariant-loop-entry : goal.invariant-loop-entry
invariant-loop-entry l = IsToldIn (take l.entry-index l.entries) l.process l.receipts l.told
