-- The bytes of a frame. All numbers are big-endian, and a frame has exactly one spelling.
use Rattle.std.specs.Prelude.{ℕ, ◌≡◌, ◌+◌, ◌<◌, ◌≤◌, ◌^◌, List, ◌∷◌, ◌++◌, length}
use Rattle.std.specs.Int.{w16, w64, to_be_bytes}
use Rattle.reg_base.specs.declared.limits.TheConstants.{MOST_REGISTERS, LAST_TIME, FRAME_NUMBERS}
use Rattle.reg_base.specs.declared.memory.Op.{Op}
use Rattle.reg_base.specs.declared.memory.Op.TheVariants.{Read, Write, Swap, CompareAndSwap}
use Rattle.reg_frames.specs.declared.bodies.Body.{Body}
use Rattle.reg_frames.specs.declared.bodies.Body.TheVariants.{Cast, Ack}
use Rattle.reg_frames.specs.declared.bodies.Frame.{Frame}
use Rattle.reg_frames.specs.declared.bodies.Frame.TheVariants.{Numbered, Got}
use Rattle.reg_frames.specs.declared.faults.FrameFault.{FrameFault}
use Rattle.reg_frames.specs.declared.faults.FrameFault.TheVariants as faults
use Rattle.reg_frames.specs.declared.layout.TheConstants.{PLAIN, SWAPPING, COMPARING, DATA, GOT, CAST, ACK, READ, WRITE}
use Rattle.reg_frames.specs.declared.layout.TheConstants.{SWAP, COMPARE_AND_SWAP}

-- the operation's byte, its register in two bytes, and the value of a write or a swap in eight; of a compare-and-swap
-- the value that it expects and then the one that it writes
abbrev pub op_bytes : Op → List ℕ
op_bytes (Read register) = READ ∷ to_be_bytes w16 register
op_bytes (Write register value) = WRITE ∷ (to_be_bytes w16 register ++ to_be_bytes w64 value)
op_bytes (Swap register value) = SWAP ∷ (to_be_bytes w16 register ++ to_be_bytes w64 value)
op_bytes (CompareAndSwap register expected value) =
    COMPARE_AND_SWAP ∷ (to_be_bytes w16 register ++ (to_be_bytes w64 expected ++ to_be_bytes w64 value))

-- the body's byte, its time in eight bytes, and the operation of a cast
abbrev pub body_bytes : Body → List ℕ
body_bytes (Cast time op) = CAST ∷ (to_be_bytes w64 time ++ op_bytes op)
body_bytes (Ack time) = ACK ∷ to_be_bytes w64 time

-- what follows the version: the frame's byte, its number or count in eight bytes, and the body of a data frame
abbrev pub payload : Frame → List ℕ
payload (Numbered number body) = DATA ∷ (to_be_bytes w64 number ++ body_bytes body)
payload (Got count) = GOT ∷ to_be_bytes w64 count

-- the cast of a swap has version 2, that of a compare-and-swap version 4, all else version 1
abbrev pub op_version : Op → ℕ
op_version (Read register) = PLAIN
op_version (Write register value) = PLAIN
op_version (Swap register value) = SWAPPING
op_version (CompareAndSwap register expected value) = COMPARING

abbrev pub body_version : Body → ℕ
body_version (Cast time op) = op_version op
body_version (Ack time) = PLAIN

abbrev pub version_of : Frame → ℕ
version_of (Numbered number body) = body_version body
version_of (Got count) = PLAIN

-- the length of what follows in two bytes, the version, and the payload
abbrev pub spelling : Frame → List ℕ
spelling frame = to_be_bytes w16 (length (payload frame) + 1) ++ version_of frame ∷ payload frame

abbrev pub OpFits : Op → Type 0
OpFits (Read register) = register < MOST_REGISTERS
OpFits (Write register value) = (register < MOST_REGISTERS) × (value < 2 ^ 64)
OpFits (Swap register value) = (register < MOST_REGISTERS) × (value < 2 ^ 64)
OpFits (CompareAndSwap register expected value) = (register < MOST_REGISTERS) × (expected < 2 ^ 64) × (value < 2 ^ 64)

abbrev pub TimeFits : ℕ → Type 0
TimeFits time = (0 < time) × (time ≤ LAST_TIME)

abbrev pub BodyFits : Body → Type 0
BodyFits (Cast time op) = TimeFits time × OpFits op
BodyFits (Ack time) = TimeFits time

-- all fields are in range
abbrev pub Fits : Frame → Type 0
Fits (Numbered number body) = (number < FRAME_NUMBERS) × BodyFits body
Fits (Got count) = count ≤ FRAME_NUMBERS

-- the bytes spell the frame
abbrev pub Spells : Frame → List ℕ → Type 0
Spells frame bytes = Fits frame × (bytes ≡ spelling frame)

-- why a frame isn't spelled
abbrev pub Refuses : Frame → FrameFault → Type 0
Refuses frame faults.Range = ¬ Fits frame
Refuses frame faults.OutOfMemory = Fits frame
Refuses frame fault = ⊥
