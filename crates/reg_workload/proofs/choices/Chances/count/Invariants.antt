use Rattle.std.proofs.Common.{◌≡◌, ◌+◌, ◌≤◌, length, count_ones}
use Rattle.std.specs.Prelude.{◌*◌}
use Rattle.reg_workload.specs.Seeded.{take_choices}
use Rattle.reg_workload.proofs.choices.Chances.count.Given as goal

-- the calls, the ticks, and the takes of the senders so far
abbrev pub invariant-loop-from : goal.invariant-loop-from
invariant-loop-from g l = record {
  total : l.total ≡ (count_ones l.self.calls + count_ones l.self.ticks) + length (take_choices g.F.FrontEnd.start l.player l.from);
  few : l.total ≤ 64 * (l.from + 2);
}
