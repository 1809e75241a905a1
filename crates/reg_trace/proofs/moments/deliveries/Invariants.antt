use Rattle.std.proofs.Common.{◌≡◌, ◌++◌, drop}
use Rattle.reg_trace.specs.Moments.{deliveries_of}
use Rattle.reg_trace.proofs.moments.deliveries.Given as goal

-- with those of the casts that are left these are all deliveries
abbrev pub invariant-loop-cast : goal.invariant-loop-cast
invariant-loop-cast g l =
    l.delivered.items ++ deliveries_of (drop l.cast-index l.casts) l.copy ≡ deliveries_of l.casts l.fn.copy
