-- A shape from its two numbers.
use Rattle.std.proofs.Common.{ℕ, ◌≡◌, nat_eq, nat_lt, Bool, true, false, cond, Result, Ok, Err}
use Rattle.reg_base.specs.declared.limits.TheConstants.{MOST_PROCESSES, MOST_REGISTERS}
use Rattle.reg_base.specs.declared.shapes.ShapeFault.{ShapeFault}
use Rattle.reg_base.specs.declared.shapes.ShapeFault.TheVariants.{NoProcess, TooManyProcesses, NoRegister}
use Rattle.reg_base.specs.declared.shapes.ShapeFault.TheVariants.{TooManyRegisters}
use Rattle.reg_base.specs.Shape.{Extent, shape_of}

tests : (res : Result Extent ShapeFault) (a b d e : Bool) (s t : Extent) → res ≡ Ok s
    → res
    ≡ cond a (Err NoProcess)
    (cond b (Err TooManyProcesses) (cond d (Err NoRegister) (cond e (Err TooManyRegisters) (Ok t))))
    → s ≡ t
tests res true b d e s t g h = absurd (cc)
tests res false true d e s t g h = absurd (cc)
tests res false false true e s t g h = absurd (cc)
tests res false false false true s t g h = absurd (cc)
tests res false false false false s t g h = cc

pub shape_is : (res : Result Extent ShapeFault) (p n : ℕ) (s : Extent) → res ≡ Ok s → res ≡ shape_of p n
    → s ≡ record { processes = p; registers = n }
shape_is res p n s g h = tests res (nat_eq p 0) (nat_lt MOST_PROCESSES p) (nat_eq n 0) (nat_lt MOST_REGISTERS n) s (record { processes = p; registers = n }) g h
