-- What the types of a frame's numbers tell of it. They carry a proof: no promise speaks of them.
use Rattle.std.specs.Prelude.{◌<◌, ◌^◌}
use Rattle.reg_base.specs.declared.memory.Op.{Op}
use Rattle.reg_base.specs.declared.memory.Op.TheVariants.{Read, Write, Swap, CompareAndSwap}
use Rattle.reg_frames.specs.declared.bodies.Body.{Body}
use Rattle.reg_frames.specs.declared.bodies.Body.TheVariants.{Cast, Ack}
use Rattle.reg_frames.specs.declared.bodies.Frame.{Frame}
use Rattle.reg_frames.specs.declared.bodies.Frame.TheVariants.{Numbered, Got}

-- the values of an operation fit their width, as each that a program holds does
abbrev pub OpIsNarrow : Op → Type 0
OpIsNarrow (Read register) = Unit {0}
OpIsNarrow (Write register value) = value < 2 ^ 64
OpIsNarrow (Swap register value) = value < 2 ^ 64
OpIsNarrow (CompareAndSwap register expected value) = (expected < 2 ^ 64) × (value < 2 ^ 64)

abbrev pub BodyIsNarrow : Body → Type 0
BodyIsNarrow (Cast time op) = OpIsNarrow op
BodyIsNarrow (Ack time) = Unit {0}

abbrev pub IsNarrow : Frame → Type 0
IsNarrow (Numbered number body) = BodyIsNarrow body
IsNarrow (Got count) = Unit {0}
