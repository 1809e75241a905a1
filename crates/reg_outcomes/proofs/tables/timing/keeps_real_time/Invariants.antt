use Rattle.std.proofs.Common.{take}
use Rattle.reg_outcomes.specs.Timing.{IsInTime}
use Rattle.reg_outcomes.proofs.tables.timing.keeps_real_time.Given as goal

-- nothing was late so far
abbrev pub invariant-loop-entry : goal.invariant-loop-entry
invariant-loop-entry g l = IsInTime (take l.entry-index l.entries) l.order l.bound
