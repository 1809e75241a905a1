-- Events, replies and faults as numbers.
use Rattle.std.specs.Prelude.{ℕ, ◌==◌, nat_lt, Option, Some, None, option_map, if◌then◌else◌}
use Rattle.reg_base.specs.declared.memory.Op.{Op}
use Rattle.reg_base.specs.declared.memory.Op.TheVariants.{Read, Write, Swap, CompareAndSwap}
use Rattle.reg_base.specs.declared.memory.Answer.{Answer}
use Rattle.reg_base.specs.declared.memory.Answer.TheVariants.{Done, Value, Unequal}
use Rattle.reg_process.specs.declared.steps.Reply.{Reply}
use Rattle.reg_process.specs.declared.faults.ProcessFault.{ProcessFault}
use Rattle.reg_process.specs.declared.faults.ProcessFault.TheVariants as refusals
use Rattle.reg_process.specs.declared.events.Event.{Event}
use Rattle.reg_process.specs.declared.events.Event.TheVariants.{Call, Take, Tick}
use Rattle.reg_world.specs.declared.faults.WorldFault.{WorldFault}
use Rattle.reg_world.specs.declared.faults.WorldFault.TheVariants.{Failed, TooManyEvents, NoProcess, Busy, NoRegister}
use Rattle.reg_world.specs.declared.faults.WorldFault.TheVariants.{TooManyOperations, NoFrame, OutOfMemory}

-- the operation that these numbers say
abbrev pub op_of : ℕ → ℕ → ℕ → Option Op
op_of kind register value =
    (if nat_lt register 65536 then
    (if kind == 0 then Some (Read register) else
    (if kind == 1 then Some (Write register value) else
    (if kind == 2 then Some (Swap register value) else None))) else None)

-- the compare-and-swap that these numbers say
abbrev pub compare_and_swap_of : ℕ → ℕ → ℕ → Option Op
compare_and_swap_of register expected value =
    (if nat_lt register 65536 then Some (CompareAndSwap register expected value) else None)

-- its call at a process
abbrev pub compare_and_swap_event : ℕ → ℕ → ℕ → ℕ → Option Event
compare_and_swap_event process register expected value =
    option_map (λ op. Call process op) (compare_and_swap_of register expected value)

-- the event that these numbers say
abbrev pub event_of : ℕ → ℕ → ℕ → ℕ → ℕ → Option Event
event_of kind process number from value =
    (if kind == 3 then Some (Take from process number) else
    (if kind == 4 then Some (Tick process) else
    option_map (λ op. Call process op) (op_of kind number value)))

abbrev pub answer_code : Answer → ℕ
answer_code Done = 1
answer_code (Value v) = 2
answer_code Unequal = 3

abbrev pub answer_value : Answer → ℕ
answer_value Done = 0
answer_value (Value v) = v
answer_value Unequal = 0

abbrev pub reply_code : Option Reply → ℕ
reply_code None = 0
reply_code (Some r) = answer_code r.answer

abbrev pub fault_code : WorldFault → ℕ
fault_code Failed = 16
fault_code TooManyEvents = 17
fault_code NoProcess = 18
fault_code Busy = 19
fault_code NoRegister = 20
fault_code TooManyOperations = 21
fault_code NoFrame = 22
fault_code OutOfMemory = 23

-- why a process refuses a step: as a world tells it, where the fault is the same
abbrev pub refusal_code : ProcessFault → ℕ
refusal_code refusals.Failed = 16
refusal_code refusals.NoProcess = 18
refusal_code refusals.Busy = 19
refusal_code refusals.NoRegister = 20
refusal_code refusals.TooManyOperations = 21
refusal_code refusals.OutOfMemory = 23
refusal_code refusals.Ahead = 24
refusal_code refusals.Stale = 25
refusal_code refusals.ClockFull = 26

-- what a call tells besides: the numbers said no event, the world was closed, there is no such shape, there is no such
-- front end

abbrev pub no_event : ℕ
no_event = 32

abbrev pub no_world : ℕ
no_world = 33

abbrev pub no_shape : ℕ
no_shape = 34

abbrev pub no_front : ℕ
no_front = 35

-- bytes were no frame, or a frame has none

abbrev pub no_frame : ℕ
no_frame = 48
