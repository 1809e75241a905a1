use Rattle.std.proofs.Common.{◌≡◌, drop}
use Rattle.reg_node.specs.Meetings.{all_heard}
use Rattle.reg_node.proofs.meetings.are_all.Given as goal

-- those that are left tell it
abbrev pub invariant-loop-is_heard : goal.invariant-loop-is_heard
invariant-loop-is_heard l = all_heard (drop l.is_heard-index l.heard) ≡ all_heard l.heard
