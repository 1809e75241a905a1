-- The order of stamps (Lamport 1978).
use Rattle.std.specs.Ordering.{nat_cmp, ordering_then}
use Rattle.std.specs.declared.cmp.Ordering.{Ordering}
use Rattle.reg_base.specs.declared.stamps.Stamp.{Stamp}

-- by time, and then by process
abbrev pub stamp_cmp : Stamp → Stamp → Ordering
stamp_cmp a b = ordering_then (nat_cmp a.time b.time) (nat_cmp a.process b.process)
