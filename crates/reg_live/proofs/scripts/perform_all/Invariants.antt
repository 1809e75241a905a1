use Rattle.std.proofs.Common.{◌≡◌, take, length}
use Rattle.reg_live.specs.Scripts.{ops_of}
use Rattle.reg_live.proofs.scripts.perform_all.Given as goal

abbrev pub invariant-loop-op : goal.invariant-loop-op
invariant-loop-op g l = (l.pass.me ≡ l.fn.pass.me) × (ops_of l.pass.receipts ≡ take l.op-index l.script) × (length l.pass.receipts ≡ l.op-index)
