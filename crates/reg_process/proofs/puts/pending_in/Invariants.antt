use Rattle.std.proofs.Common.{◌≡◌, ◌≤◌, ◌+◌, ◌*◌, drop}
use Rattle.reg_base.specs.declared.limits.TheConstants.{FRAME_NUMBERS}
use Rattle.reg_process.specs.Queued.{outs_of, pending_in}
use Rattle.reg_process.proofs.puts.pending_in.Given as goal

-- what is left to count, and a bound on what is counted
abbrev pub invariant-loop-r : goal.invariant-loop-r
invariant-loop-r g l = record {
  left : l.total + pending_in (drop l.r (outs_of l.me l.outboxes)) ≡ pending_in (outs_of l.me l.outboxes);
  bound : l.total ≤ l.r * FRAME_NUMBERS;
}
