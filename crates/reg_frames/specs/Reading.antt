-- Which fault the bytes have: the first of a fixed row of tests.
use Rattle.std.specs.Prelude.{ℕ, ◌-◌, ◌==◌, ◌&&◌, nat_lt, nat_le, Bool, List, length, take, drop, slice_index, Result}
use Rattle.std.specs.Prelude.{Ok, Err, if◌then◌else◌}
use Rattle.std.specs.Int.{Width, w16, w64, byte_len, from_be_bytes}
use Rattle.reg_base.specs.declared.limits.TheConstants.{MOST_REGISTERS, LAST_TIME, FRAME_NUMBERS}
use Rattle.reg_base.specs.declared.memory.Op.{Op}
use Rattle.reg_base.specs.declared.memory.Op.TheVariants.{Read, Write, Swap, CompareAndSwap}
use Rattle.reg_base.specs.Memory.{register_of}
use Rattle.reg_frames.specs.declared.bodies.Body.{Body}
use Rattle.reg_frames.specs.declared.bodies.Body.TheVariants.{Cast, Ack}
use Rattle.reg_frames.specs.declared.bodies.Frame.{Frame}
use Rattle.reg_frames.specs.declared.bodies.Frame.TheVariants.{Numbered, Got}
use Rattle.reg_frames.specs.declared.faults.FrameFault.{FrameFault}
use Rattle.reg_frames.specs.declared.faults.FrameFault.TheVariants as faults
use Rattle.reg_frames.specs.declared.layout.TheConstants.{LENGTH_AT, VERSION_AT, KIND_AT, NUMBER_AT, BODY_AT, TIME_AT}
use Rattle.reg_frames.specs.declared.layout.TheConstants.{OP_AT, REGISTER_AT, VALUE_AT, NEW_VALUE_AT, GOT_SIZE}
use Rattle.reg_frames.specs.declared.layout.TheConstants.{ACK_SIZE, READ_SIZE, VALUED_SIZE, COMPARED_SIZE, PLAIN}
use Rattle.reg_frames.specs.declared.layout.TheConstants.{SWAPPING, COMPARING, DATA, GOT, CAST, ACK, READ, WRITE, SWAP}
use Rattle.reg_frames.specs.declared.layout.TheConstants.{COMPARE_AND_SWAP}

-- the number that stands at this offset
abbrev pub number_at : Width → ℕ → List ℕ → ℕ
number_at w at bytes = from_be_bytes w (take (byte_len w) (drop at bytes))

abbrev pub is_time : ℕ → Bool
is_time time = nat_lt 0 time && nat_le time LAST_TIME

abbrev pub body_fits : Body → Bool
body_fits (Cast time op) = is_time time && nat_lt (register_of op) MOST_REGISTERS
body_fits (Ack time) = is_time time

-- whether the fields are in range
abbrev pub frame_fits : Frame → Bool
frame_fits (Numbered number body) = nat_lt number FRAME_NUMBERS && body_fits body
frame_fits (Got count) = nat_le count FRAME_NUMBERS

abbrev pub in_range : Frame → Result Frame FrameFault
in_range frame = if frame_fits frame then Ok frame else Err faults.Range

-- a frame of just this size
abbrev pub sized : ℕ → List ℕ → Frame → Result Frame FrameFault
sized size bytes frame = if length bytes == size then in_range frame else Err faults.Size

abbrev pub cast_at : List ℕ → Op → Frame
cast_at bytes op = Numbered (number_at w64 NUMBER_AT bytes) (Cast (number_at w64 TIME_AT bytes) op)

-- a cast by its operation's byte
abbrev pub cast_of : List ℕ → Result Frame FrameFault
cast_of bytes =
    if nat_lt (length bytes) REGISTER_AT then Err faults.Size else
    if slice_index bytes OP_AT == READ then sized READ_SIZE bytes
    (cast_at bytes (Read (number_at w16 REGISTER_AT bytes))) else
    if slice_index bytes OP_AT == WRITE then sized VALUED_SIZE bytes
    (cast_at bytes (Write (number_at w16 REGISTER_AT bytes) (number_at w64 VALUE_AT bytes))) else
    Err faults.Op

-- a data frame by its body's byte
abbrev pub data_of : List ℕ → Result Frame FrameFault
data_of bytes =
    if nat_lt (length bytes) TIME_AT then Err faults.Size else
    if slice_index bytes BODY_AT == CAST then cast_of bytes else
    if slice_index bytes BODY_AT == ACK then sized ACK_SIZE bytes
    (Numbered (number_at w64 NUMBER_AT bytes) (Ack (number_at w64 TIME_AT bytes))) else
    Err faults.Body

-- a frame of version 1 by its kind
abbrev pub plain_of : List ℕ → Result Frame FrameFault
plain_of bytes =
    if slice_index bytes KIND_AT == DATA then data_of bytes else
    if slice_index bytes KIND_AT == GOT then sized GOT_SIZE bytes (Got (number_at w64 NUMBER_AT bytes)) else
    Err faults.Kind

-- the cast of a swap, and that of a compare-and-swap
abbrev pub swap_at : List ℕ → Result Frame FrameFault
swap_at bytes =
    sized VALUED_SIZE bytes (cast_at bytes (Swap (number_at w16 REGISTER_AT bytes) (number_at w64 VALUE_AT bytes)))

abbrev pub compare_and_swap_at : List ℕ → Result Frame FrameFault
compare_and_swap_at bytes =
    sized COMPARED_SIZE bytes
    (cast_at bytes
    (CompareAndSwap (number_at w16 REGISTER_AT bytes) (number_at w64 VALUE_AT bytes)
    (number_at w64 NEW_VALUE_AT bytes)))

-- the cast of the one operation of a version: a swap, or a compare-and-swap
abbrev pub lone_cast_of : ℕ → List ℕ → Result Frame FrameFault
lone_cast_of kind bytes =
    if nat_lt (length bytes) REGISTER_AT then Err faults.Size else
    if slice_index bytes OP_AT == kind then (if kind == SWAP then swap_at bytes else compare_and_swap_at bytes) else
    Err faults.Op

abbrev pub lone_data_of : ℕ → List ℕ → Result Frame FrameFault
lone_data_of kind bytes =
    if nat_lt (length bytes) TIME_AT then Err faults.Size else
    if slice_index bytes BODY_AT == CAST then lone_cast_of kind bytes else
    Err faults.Body

-- a frame of a version that has the casts of this operation alone
abbrev pub lone_of : ℕ → List ℕ → Result Frame FrameFault
lone_of kind bytes = if slice_index bytes KIND_AT == DATA then lone_data_of kind bytes else Err faults.Kind

-- the frame, or the first fault
abbrev pub frame_of : List ℕ → Result Frame FrameFault
frame_of bytes =
    if nat_lt (length bytes) GOT_SIZE then Err faults.Short else
    if number_at w16 LENGTH_AT bytes == length bytes - VERSION_AT then
    (if slice_index bytes VERSION_AT == PLAIN then plain_of bytes else
    if slice_index bytes VERSION_AT == SWAPPING then lone_of SWAP bytes else
    if slice_index bytes VERSION_AT == COMPARING then lone_of COMPARE_AND_SWAP bytes else
    Err faults.Version)
    else Err faults.Length
