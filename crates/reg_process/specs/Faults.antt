-- When an event is refused. Promises cite it.
use Rattle.std.specs.Prelude.{ℕ, ◌≡◌, ◌≢◌, ◌<◌, ◌≤◌, [], Bool, true, false, ◌==◌, ◌||◌, nat_lt, nat_le, max, length}
use Rattle.std.specs.Prelude.{Option, Some, None, if◌then◌else◌}
use Rattle.reg_base.specs.declared.memory.Op.{Op}
use Rattle.reg_frames.specs.declared.bodies.Body.{Body}
use Rattle.reg_frames.specs.declared.bodies.Body.TheVariants.{Cast, Ack}
use Rattle.reg_frames.specs.declared.bodies.Frame.{Frame}
use Rattle.reg_frames.specs.declared.bodies.Frame.TheVariants.{Numbered, Got}
use Rattle.reg_front.specs.declared.starts.Start.{Start}
use Rattle.reg_front.specs.declared.starts.Start.TheVariants.{Cast as Casts, CastAndAnswer as CastsAndAnswers}
use Rattle.reg_front.specs.declared.starts.Start.TheVariants.{Look as Looks, Hold as Holds}
use Rattle.reg_process.specs.declared.steps.Step.{Step}
use Rattle.reg_process.specs.declared.steps.Step.TheVariants.{Call, Take, Tick}
use Rattle.reg_base.specs.declared.limits.TheConstants.{LAST_TIME, MOST_OPERATIONS}
use Rattle.reg_base.specs.Memory.{register_of}
use Rattle.reg_process.specs.Process.{State, Running, peer_at, next_of, seen_at, unsettled, time_of, clear_casts}
use Rattle.reg_process.specs.Process.{accepts, resent}
use Rattle.reg_process.specs.Puts.{puts}
use Rattle.reg_process.specs.declared.faults.ProcessFault.{ProcessFault}
use Rattle.reg_process.specs.declared.faults.ProcessFault.TheVariants.{NoProcess, Busy, NoRegister, TooManyOperations}
use Rattle.reg_process.specs.declared.faults.ProcessFault.TheVariants.{Ahead, Stale, ClockFull, OutOfMemory}

abbrev pub first_of : {X : Type 0} → Option X → Option X → Option X
first_of (Some x) o = Some x
first_of None o = o

abbrev pub is_cast : Start → Bool
is_cast Casts = true
is_cast CastsAndAnswers = true
is_cast Looks = false
is_cast Holds = false

abbrev pub full_at : ℕ → Start → Option ProcessFault
full_at clock start = if is_cast start then (if nat_le LAST_TIME clock then Some ClockFull else None) else None

-- the faults of a call before it starts
abbrev pub early_fault : State → Op → Option Running → Option ProcessFault
early_fault s op (Some r) = Some Busy
early_fault s op None =
    if nat_le (length s.copy) (register_of op) then Some NoRegister else
    if nat_le MOST_OPERATIONS s.calls then Some TooManyOperations else None

abbrev pub call_fault : (Op → ℕ → Start) → State → Op → Option ProcessFault
call_fault start s op = first_of (early_fault s op s.running) (full_at s.clock (start op (unsettled s)))

abbrev pub is_out : State → Body → Bool
is_out s (Cast t op) = nat_le (length s.copy) (register_of op)
is_out s (Ack t) = false

-- the faults of an expected body, but for a full clock
abbrev pub early_body : State → ℕ → Body → Option ProcessFault
early_body s from body =
    if is_out s body then Some NoRegister else
    if nat_le (time_of body) (seen_at s from) then Some Stale else None

abbrev pub full_by : State → Body → Option ProcessFault
full_by s body = if nat_le LAST_TIME (max s.clock (time_of body)) then Some ClockFull else None

abbrev pub body_fault : State → ℕ → Body → Option ProcessFault
body_fault s from body = first_of (early_body s from body) (full_by s body)

abbrev pub frame_fault : State → ℕ → Frame → Option ProcessFault
frame_fault s from (Numbered number body) = if number == (peer_at s from).expected then body_fault s from body else None
frame_fault s from (Got count) = if nat_lt (next_of (peer_at s from)) count then Some Ahead else None

-- whether a frame carries a body: a count doesn't
abbrev pub is_numbered : Frame → Bool
is_numbered (Numbered number body) = true
is_numbered (Got count) = false

-- Whether an expected body can be refused memory, where `room` frames fit into the kept list. A cast can, since it is
-- held; an acknowledgement takes memory only for its answer, where there is no room, or for the casts that it makes
-- clear.
abbrev pub body_memory : State → ℕ → ℕ → Body → Bool
body_memory s room from (Cast t op) = true
body_memory s room from (Ack t) = (room == 0) || nat_lt 0 (length (clear_casts (accepts from t s)))

-- Whether a frame can be refused memory: an expected body as above, and a dropped one where there is no room for its
-- answer, but never a count.
abbrev pub takes_memory : State → ℕ → ℕ → Frame → Bool
takes_memory s room from (Numbered number body) =
    if number == (peer_at s from).expected then body_memory s room from body else (room == 0)
takes_memory s room from (Got count) = false

-- Whether a step can be refused memory: a call that is cast, a frame as above, and a tick that puts a frame.
abbrev pub StepTakesMemory : (Op → ℕ → Start) → State → ℕ → Step → Type 0
StepTakesMemory start s room (Call op) = is_cast (start op (unsettled s)) ≡ true
StepTakesMemory start s room (Take from frame) = takes_memory s room from frame ≡ true
StepTakesMemory start s room Tick = puts (resent s) (length s.peers) ≢ []

abbrev pub take_fault : State → ℕ → Frame → Option ProcessFault
take_fault s from frame =
    if nat_le (length s.peers) from || from == s.me then Some NoProcess else frame_fault s from frame

abbrev pub step_fault : (Op → ℕ → Start) → State → Step → Option ProcessFault
step_fault start s (Call op) = call_fault start s op
step_fault start s (Take from frame) = take_fault s from frame
step_fault start s Tick = None

abbrev pub is_stop : ProcessFault → Bool
is_stop ClockFull = true
is_stop OutOfMemory = true
is_stop fault = false

abbrev pub NewRefused : ℕ → ℕ → ProcessFault → Type 0
NewRefused processes me NoProcess = processes ≤ me
NewRefused processes me OutOfMemory = me < processes
NewRefused processes me fault = ⊥
