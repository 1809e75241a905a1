use Rattle.std.proofs.Common.{◌-◌, ◌≤◌, length}
use Rattle.reg_outcomes.proofs.orders.changes.change_after.Given as goal

-- the place is between these
abbrev pub invariant-loop-low : goal.invariant-loop-low
invariant-loop-low g l = record { low : l.low ≤ l.high; high : l.high ≤ length l.numbers }

abbrev pub decreases-loop-low : goal.decreases-loop-low
decreases-loop-low g l = l.high - l.low
