use Rattle.std.proofs.Common.{◌≡◌, ◌≤◌, ◌-◌, ◌+◌, drop, length}
use Rattle.reg_links.proofs.outboxes.Outbox.got.Given as goal

-- what is left to drop, and the number of what is first
abbrev pub invariant-loop-self : goal.invariant-loop-self
invariant-loop-self g l = record {
  left : drop (l.count - l.self-inside.first) l.self-inside.bodies.items ≡ drop (l.count - l.fn.self.first) l.fn.self.pending;
  next : l.self-inside.first + length l.self-inside.bodies.items ≡ l.fn.self.first + length l.fn.self.pending;
  later : l.fn.self.first ≤ l.self-inside.first;
}

abbrev pub decreases-loop-self : goal.decreases-loop-self
decreases-loop-self g l = l.count - l.self-inside.first
