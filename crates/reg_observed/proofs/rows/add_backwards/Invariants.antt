use Rattle.std.proofs.Common.{ℕ, ◌≡◌, ◌≤◌, ◌<◌, drop, length, get_or, reverse, None}
use Rattle.reg_observed.specs.Rows.{rows_from, next_of}
use Rattle.reg_observed.proofs.rows.add_backwards.Given as goal

abbrev pub invariant-loop-left : goal.invariant-loop-left
invariant-loop-left l = record {
  within : l.left ≤ length l.events;
  rows : reverse l.rows.items ≡ rows_from l.first l.left (drop l.left l.events);
  count : length l.next.items ≡ l.processes;
  next : (p : ℕ) → p < l.processes → get_or l.next.items p None ≡ next_of p (drop l.left l.events);
}

abbrev pub decreases-loop-left : goal.decreases-loop-left
decreases-loop-left l = l.left
