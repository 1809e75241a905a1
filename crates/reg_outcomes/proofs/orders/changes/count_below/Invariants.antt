use Rattle.std.proofs.Common.{◌-◌, ◌≤◌, length}
use Rattle.reg_outcomes.proofs.orders.changes.count_below.Given as goal

-- the place is between these
abbrev pub invariant-loop-low : goal.invariant-loop-low
invariant-loop-low l = record { low : l.low ≤ l.high; high : l.high ≤ length l.numbers }

abbrev pub decreases-loop-low : goal.decreases-loop-low
decreases-loop-low l = l.high - l.low
