use Rattle.std.proofs.Common.{◌<◌, ℕ, List, map}
use Rattle.reg_checkers.specs.History.{IsAt}
use Rattle.reg_records.specs.declared.entries.Receipt.{Receipt}
use Rattle.reg_records.specs.Receipts.{AreFinished}
use Rattle.reg_records.proofs.telling.first_untold.Given as goal

abbrev pub invariant-loop-process : goal.invariant-loop-process
invariant-loop-process g l = (p : ℕ) (those : List Receipt) → p < l.process → IsAt (map (λ v. v.items) l.receipts) p those → AreFinished l.entries p those
