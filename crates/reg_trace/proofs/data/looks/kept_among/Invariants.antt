use Rattle.std.proofs.Common.{◌≡◌}
use Rattle.reg_trace.specs.Looks.{kept_of}
use Rattle.reg_trace.proofs.data.looks.kept_among.Given as goal

-- those of the registers so far
abbrev pub invariant-loop-register : goal.invariant-loop-register
invariant-loop-register g l = l.kept.items ≡ kept_of l.values l.register
