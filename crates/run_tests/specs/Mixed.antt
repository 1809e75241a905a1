-- A front end of a user's own, as the tests have it: it answers its writes at once, and casts all its other operations.
use Rattle.std.specs.Prelude.{ℕ, refl}
use Rattle.reg_base.specs.declared.memory.Op.{Op}
use Rattle.reg_base.specs.declared.memory.Op.TheVariants.{Read, Write, Swap, CompareAndSwap}
use Rattle.reg_front.specs.declared.starts.Start.{Start}
use Rattle.reg_front.specs.declared.starts.Start.TheVariants.{Cast, CastAndAnswer}
use Rattle.reg_front.specs.Fronts.{KeepsLaws}

abbrev pub mixed : Op → ℕ → Start
mixed (Read r) unsettled = Cast
mixed (Write r v) unsettled = CastAndAnswer
mixed (Swap r v) unsettled = Cast
mixed (CompareAndSwap r e v) unsettled = Cast

pub mixed_keeps : KeepsLaws mixed
mixed_keeps (Read r) unsettled = tt
mixed_keeps (Write r v) unsettled = λ m. refl
mixed_keeps (Swap r v) unsettled = tt
mixed_keeps (CompareAndSwap r e v) unsettled = tt
