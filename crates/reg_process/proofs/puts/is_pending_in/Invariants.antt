use Rattle.std.proofs.Common.{◌≡◌, drop}
use Rattle.reg_process.specs.Queued.{outs_of, pending_in}
use Rattle.reg_process.proofs.puts.is_pending_in.Given as goal

-- none was found so far
abbrev pub invariant-loop-r : goal.invariant-loop-r
invariant-loop-r g l = pending_in (drop l.r (outs_of l.me l.outboxes)) ≡ pending_in (outs_of l.me l.outboxes)
