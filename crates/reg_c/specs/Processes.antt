-- A process that a caller holds, under one of the three front ends.
use Rattle.std.specs.Prelude.{nat_lt, is_err, max, ℕ, List, [], ◌∷◌, ◌≡◌, ◌==◌, ◌<◌, ◌⊎◌, length, slice_get}
use Rattle.std.specs.Prelude.{vec_capacity, false, Option, Some, None, unwrap_or, option_map, if◌then◌else◌}
use Rattle.std.specs.List.{All, flat_map}
use Rattle.reg_base.specs.Shape.{Extent, shape_of}
use Rattle.reg_base.specs.declared.memory.Op.{Op}
use Rattle.reg_base.specs.declared.stamps.Stamp.{Stamp}
use Rattle.reg_base.specs.declared.stamps.Delivered.{Delivered}
use Rattle.reg_frames.specs.Spelling.{Fits, Spells, spelling}
use Rattle.reg_frames.specs.declared.bodies.Frame.{Frame}
use Rattle.reg_frames.specs.declared.puts.Put.{Put}
use Rattle.reg_front.specs.declared.named.Front.{Front}
use Rattle.reg_front.specs.declared.named.Front.TheVariants.{Linear as LinearFront, LocalRead as LocalReadFront}
use Rattle.reg_front.specs.declared.named.Front.TheVariants.{LocalWrite as LocalWriteFront}
use Rattle.reg_front.specs.declared.starts.Start.{Start}
use Rattle.reg_front.specs.Table.{linear, local_read, local_write}
use Rattle.reg_process.specs.Events.{Kept, Refused, Steps}
use Rattle.reg_process.specs.Known.{IsNoPeer, known_of}
use Rattle.reg_process.specs.Parts.{first_parts, state_of}
use Rattle.reg_process.specs.Process.{Running, Own, Held, State, peer_at, pending_of, unsettled}
use Rattle.reg_process.specs.declared.faults.ProcessFault.{ProcessFault}
use Rattle.reg_process.specs.declared.faults.ProcessFault.TheVariants as refusals
use Rattle.reg_process.specs.declared.known.Known.{Known}
use Rattle.reg_process.specs.declared.steps.Reply.{Reply}
use Rattle.reg_process.specs.declared.steps.Step.{Step}
use Rattle.reg_process.specs.declared.steps.Step.TheVariants as steps
use Rattle.reg_c.specs.declared.processes.KeptProcess.{KeptProcess}
use Rattle.reg_c.specs.declared.processes.KeptProcess.TheVariants.{Linear, LocalRead, LocalWrite, Closed}
use Rattle.reg_c.specs.declared.processes.HeldProcess.{HeldProcess}
use Rattle.reg_c.specs.declared.parts.StatePart.{StatePart}
use Rattle.reg_c.specs.declared.parts.StatePart.TheVariants.{Clock, Delivered as DeliveredCount, Unsettled, Pending}
use Rattle.reg_c.specs.declared.parts.StatePart.TheVariants.{Running as RunningCode, Register}
use Rattle.reg_c.specs.declared.parts.PeerPart.{PeerPart}
use Rattle.reg_c.specs.declared.parts.PeerPart.TheVariants.{First, Next, Expected, Seen}
use Rattle.reg_c.specs.declared.parts.ProcessLook.{ProcessLook}
use Rattle.reg_c.specs.declared.parts.ProcessLook.TheVariants.{OfState, ReplyValue, ReplyPlace}
use Rattle.reg_c.specs.Fronts.{front_at}
use Rattle.reg_c.specs.Events.{no_event, no_frame, no_front, no_shape, no_world, refusal_code, reply_code}
use Rattle.reg_commands.specs.Lent.{filled}
use Rattle.reg_c.specs.Worlds.{reply_place, reply_value, seen}

-- a process that did nothing yet
abbrev pub first_process : ℕ → Extent → Kept
first_process me shape =
    record { failed = false; state = state_of (first_parts me shape.processes shape.registers); room = 0 }

-- what is kept of a process, under its front end
abbrev pub kept_process : Front → Kept → KeptProcess
kept_process LinearFront k = Linear k
kept_process LocalReadFront k = LocalRead k
kept_process LocalWriteFront k = LocalWrite k

-- what is held at first: a process of the front end of this number that did nothing yet
abbrev pub process_at_first : ℕ → ℕ → Extent → Option KeptProcess
process_at_first front me shape = option_map (λ f. kept_process f (first_process me shape)) (front_at front)

-- why there is no process of a shape: this number names no front end, or no process of the shape, or there was no
-- memory
abbrev pub unmade_process : ℕ → ℕ → ℕ → ℕ
unmade_process front me processes =
    unwrap_or (option_map
    (λ _. if nat_lt me processes then refusal_code refusals.OutOfMemory else refusal_code refusals.NoProcess)
    (front_at front))
    no_front

-- why there is no process: these numbers are no shape, or there is none of their shape
abbrev pub process_refusal : ℕ → ℕ → ℕ → ℕ → ℕ
process_refusal front processes registers me =
    (if is_err (shape_of processes registers) then no_shape else unmade_process front me processes)

-- what a caller holds at first: a process of the shape that did nothing yet, with no reply and no frames
abbrev pub IsFirstProcess : ℕ → ℕ → Extent → HeldProcess → Type 0
IsFirstProcess front me shape h =
    (process_at_first front me shape ≡ Some h.process) × (me < shape.processes) × (h.reply ≡ None)
    × (h.frames.items ≡ [])

-- a process with a list for the frames of its next step in which this number of them fits
abbrev pub with_room : ℕ → Kept → Kept
with_room room k = record k { room = max k.room room }

-- a step was accepted, with its frames, its reply and that reply's number; or refused, with its fault's number, no
-- frames and no reply
abbrev pub Makes : (Op → ℕ → Start) → Step → Kept → Kept → List Put → Option Reply → ℕ → Type 0
Makes start step old new frames reply code =
    ((cast : Option Stamp) × (delivered : List Delivered) × Steps start old step frames cast delivered reply new
    × (code ≡ reply_code reply))
    ⊎ ((fault : ProcessFault) × Refused start old step fault new × (frames ≡ []) × (reply ≡ None)
    × (code ≡ refusal_code fault))

-- what a step does to the process that is held, whose list for frames is that of the step before; or nothing where it
-- was closed
abbrev pub MakesIn : Step → ℕ → KeptProcess → KeptProcess → List Put → Option Reply → ℕ → Type 0
MakesIn step room (Linear old) new frames reply code =
    (after : Kept) × (new ≡ Linear after) × Makes linear step (with_room room old) after frames reply code
MakesIn step room (LocalRead old) new frames reply code =
    (after : Kept) × (new ≡ LocalRead after) × Makes local_read step (with_room room old) after frames reply code
MakesIn step room (LocalWrite old) new frames reply code =
    (after : Kept) × (new ≡ LocalWrite after) × Makes local_write step (with_room room old) after frames reply code
MakesIn step room Closed new frames reply code = (new ≡ Closed) × (frames ≡ []) × (reply ≡ None) × (code ≡ no_world)

-- what a step does to what is held: its frames and its reply are those of this step
abbrev pub Made : Step → HeldProcess → HeldProcess → ℕ → Type 0
Made step old new code = MakesIn step (vec_capacity old.frames) old.process new.process new.frames.items new.reply code

-- the call of an operation, or nothing where the numbers say none
abbrev pub Calls : Option Op → HeldProcess → HeldProcess → ℕ → Type 0
Calls None old new code = (code ≡ no_event) × (new ≡ old)
Calls (Some op) old new code = Made (steps.Call op) old new code

-- the take of the frame that the bytes spell, or nothing where they spell none
abbrev pub Takes : ℕ → List ℕ → HeldProcess → HeldProcess → ℕ → Type 0
Takes from bytes old new code =
    ((frame : Frame) × Spells frame bytes × Made (steps.Take from frame) old new code)
    ⊎ (((frame : Frame) → ¬ Spells frame bytes) × (code ≡ no_frame) × (new ≡ old))

-- The frames of a step as bytes: for each the receiver, and what spells the frame.

abbrev pub put_bytes : Put → List ℕ
put_bytes p = p.to ∷ spelling p.frame

abbrev pub all_bytes : List Put → List ℕ
all_bytes puts = flat_map put_bytes puts

abbrev pub AllFit : List Put → Type 0
AllFit puts = All (λ (p : Put). Fits p.frame) puts

-- why frames have no bytes: there was no memory, or one of them is out of range
abbrev pub IsUnspelled : List Put → ℕ → Type 0
IsUnspelled puts code = (code ≡ refusal_code refusals.OutOfMemory) ⊎ ((code ≡ no_frame) × ¬ AllFit puts)

-- the room holds the front of the bytes of all frames, and the length is theirs; or nothing has changed
abbrev pub TellsFrames : List Put → ℕ → List ℕ → List ℕ → ℕ → ℕ → Type 0
TellsFrames puts code old new old_length new_length =
    ((code ≡ 0) × AllFit puts × (new ≡ filled (all_bytes puts) old) × (new_length ≡ length (all_bytes puts)))
    ⊎ ((0 < code) × IsUnspelled puts code × (new ≡ old) × (new_length ≡ old_length))

-- What a caller looks at, by a number

-- 1 while an operation waits for its cast, 2 while it waits for all own casts, and 0 where none runs
abbrev pub running_code : Option Running → ℕ
running_code None = 0
running_code (Some (Own stamp op)) = 1
running_code (Some (Held op)) = 2

abbrev pub state_part : StatePart → ℕ → State → ℕ
state_part Clock register s = s.clock
state_part DeliveredCount register s = s.delivered
state_part Unsettled register s = unsettled s
state_part Pending register s = pending_of s.peers
state_part RunningCode register s = running_code s.running
state_part Register register s = unwrap_or (slice_get s.copy register) 0

abbrev pub state_in : KeptProcess → Option State
state_in (Linear k) = Some k.state
state_in (LocalRead k) = Some k.state
state_in (LocalWrite k) = Some k.state
state_in Closed = None

abbrev pub process_looked : HeldProcess → ℕ → ProcessLook → ℕ
process_looked h register (OfState part) = seen (state_part part register) (state_in h.process)
process_looked h register ReplyValue = seen reply_value h.reply
process_looked h register ReplyPlace = seen reply_place h.reply

abbrev pub process_look_of : ℕ → Option ProcessLook
process_look_of what =
    (if what == 0 then Some (OfState Clock) else
    (if what == 1 then Some (OfState DeliveredCount) else
    (if what == 2 then Some (OfState Unsettled) else
    (if what == 3 then Some (OfState Pending) else
    (if what == 4 then Some (OfState RunningCode) else
    (if what == 5 then Some (OfState Register) else
    (if what == 6 then Some ReplyValue else
    (if what == 7 then Some ReplyPlace else None))))))))

-- the number that a caller gets: 0 where it asks for nothing that there is
abbrev pub process_number : HeldProcess → ℕ → ℕ → ℕ
process_number h what register = seen (process_looked h register) (process_look_of what)

-- What the process knows of another one, by a number

abbrev pub peer_part : PeerPart → Known → ℕ
peer_part First k = k.first
peer_part Next k = k.next
peer_part Expected k = k.expected
peer_part Seen k = k.seen

abbrev pub peer_part_of : ℕ → Option PeerPart
peer_part_of what =
    (if what == 0 then Some First else
    (if what == 1 then Some Next else
    (if what == 2 then Some Expected else
    (if what == 3 then Some Seen else None))))

abbrev pub known_number : Known → ℕ → ℕ
known_number k what = seen (λ part. peer_part part k) (peer_part_of what)

-- the number that a caller gets: 0 where there is no other process of this number, and where it was closed
abbrev pub TellsKnown : Option State → ℕ → ℕ → ℕ → Type 0
TellsKnown None what peer n = n ≡ 0
TellsKnown (Some s) what peer n = (n ≡ known_number (known_of (peer_at s peer)) what) ⊎ (IsNoPeer s peer × (n ≡ 0))
