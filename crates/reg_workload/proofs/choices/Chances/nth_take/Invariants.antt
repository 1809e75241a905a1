use Rattle.std.proofs.Common.{◌≡◌, ◌+◌, length}
use Rattle.reg_workload.specs.Seeded.{take_choices}
use Rattle.reg_workload.proofs.choices.Chances.nth_take.Given as goal

-- so far after those of the senders so far
abbrev pub invariant-loop-from : goal.invariant-loop-from
invariant-loop-from g l = l.fn.place ≡ length (take_choices g.F.FrontEnd.start l.player l.from) + l.left
