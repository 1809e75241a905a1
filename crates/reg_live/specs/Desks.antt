-- Stations with the logs of their steps. They carry a proof: no promise speaks of them.
use Rattle.std.specs.Prelude.{ℕ, ◌≡◌, ◌<◌, ◌≤◌, ◌++◌, ◌==◌, ◌||◌, ◌⊎◌, Bool, true, false, List, [], ◌∷◌, length, Option}
use Rattle.std.specs.Prelude.{Some, None, if◌then◌else◌}
use Rattle.reg_base.specs.declared.limits.TheConstants.{MOST_EVENTS}
use Rattle.reg_base.specs.declared.memory.Op.{Op}
use Rattle.reg_base.specs.Shape.{Extent}
use Rattle.reg_front.specs.declared.starts.Start.{Start}
use Rattle.reg_process.specs.declared.steps.Step.{Step}
use Rattle.reg_frames.specs.declared.puts.Put.{Put}
use Rattle.reg_process.specs.declared.steps.Reply.{Reply}
use Rattle.reg_process.specs.declared.faults.ProcessFault.{ProcessFault}
use Rattle.reg_process.specs.declared.faults.ProcessFault.TheVariants.{ClockFull}
use Rattle.reg_process.specs.Process.{State, step}
use Rattle.reg_process.specs.Faults.{step_fault, is_stop}
use Rattle.reg_process.specs.Parts.{state_of, first_parts}
use Rattle.reg_process.specs.Events.{Kept, IsGoing, Refused, process_fault}
use Rattle.reg_process.specs.Puts.{puts}
use Rattle.reg_records.specs.declared.entries.LogEntry.{LogEntry}
use Rattle.reg_live.specs.declared.faults.LiveFault.{LiveFault}
use Rattle.reg_live.specs.declared.faults.LiveFault.TheVariants.{Failed, NoRegister, Behind, OutOfMemory}
use Rattle.reg_live.specs.declared.journals.AppendFault.{AppendFault}
use Rattle.reg_live.specs.declared.journals.AppendFault.TheVariants.{Behind as IsBehind, Full as IsFull}
use Rattle.reg_live.specs.declared.journals.AppendFault.TheVariants.{OutOfMemory as NoMemory}
use Rattle.reg_live.specs.declared.operations.Operation.{Operation}
use Rattle.reg_live.specs.declared.operations.Operation.TheVariants.{Uncalled, Running, Answered}
use Rattle.reg_live.specs.declared.phases.Phase.{Phase}
use Rattle.reg_live.specs.Operations.{after_section, answer_to}
use Rattle.reg_live.specs.Phases.{is_stopped, after_place, after_stop}
use Rattle.reg_live.specs.Progress.{Reached, first_unacknowledged, with_step, with_puts}
use Rattle.reg_live.specs.Stations.{told_of}

-- the process went from one state to the next by the step and with the reply of this entry
pub record IsStep (start : Op → ℕ → Start) (s : State) (e : LogEntry) (t : State) : Type 0 where
  pub accepted : step_fault start s e.step ≡ None
  pub state : t ≡ (step start s e.step).0
  pub reply : e.reply ≡ (step start s e.step).1.reply

-- the states after each entry of a log that begins at this state
abbrev pub Follows : (Op → ℕ → Start) → State → List LogEntry → List State → Type 0
Follows start s [] [] = Unit {0}
Follows start s [] (t ∷ ts) = ⊥
Follows start s (e ∷ es) [] = ⊥
Follows start s (e ∷ es) (t ∷ ts) = IsStep start s e t × Follows start t es ts

-- the last of a state and those after it
abbrev pub last_of : State → List State → State
last_of s [] = s
last_of s (t ∷ ts) = last_of t ts

-- a process that did nothing yet
abbrev pub first_of : Extent → ℕ → State
first_of shape me = state_of (first_parts me shape.processes shape.registers)

-- There is a list of states, one more than the log has entries, that begins with the first state of the process, and in
-- which each follows from the one before by the step and the reply of the entry between them. Unless the station has
-- stopped, the last is that of its process.
pub record IsKept (start : Op → ℕ → Start) (first : State) (log : List LogEntry) (stopped : Bool)
    (process : Kept) : Type 0 where
  pub after : List State
  pub follows : Follows start first log after
  pub last : stopped ≡ false → IsGoing process (last_of first after)

-- A station as contracts see it, with the number of entries that its log has room for, the frames that are not handed
-- over, by section, the number of sections whose frames there is room for, how far its links and its last operation
-- have come, and whether callers still wait
pub record Desk : Type 0 where
  pub me : ℕ
  pub shape : Extent
  pub log : List LogEntry
  pub room : ℕ
  pub stopped : Bool
  pub process : Kept
  pub outgoing : List (List Put)
  pub space : ℕ
  pub links : Reached
  pub operation : Operation
  pub phase : Phase

-- the frames that a process puts in a step
abbrev pub frames_of : (Op → ℕ → Start) → Kept → Step → List Put
frames_of start k e = puts (step start k.state e).1.frames (length k.state.peers)

-- the frames of one section more after those of earlier ones; a section without any leaves them
abbrev pub with_frames : List (List Put) → List Put → List (List Put)
with_frames lists [] = lists
with_frames lists (p ∷ ps) = lists ++ (p ∷ ps) ∷ []

-- why a journal of this length doesn't take a section at the floor or after it: the first of these that applies
abbrev pub IsUnplaced : ℕ → ℕ → AppendFault → Type 0
IsUnplaced length floor IsBehind = length < floor
IsUnplaced length floor IsFull = (floor ≤ length) × (MOST_EVENTS ≤ length)
IsUnplaced length floor NoMemory = (floor ≤ length) × (length < MOST_EVENTS)

-- what the caller is told where its section isn't appended
abbrev pub told_of_append : AppendFault → LiveFault
told_of_append NoMemory = OutOfMemory
told_of_append fault = Failed

-- a station in another phase
abbrev pub in_phase : Desk → Phase → Desk
in_phase s phase = record s { stopped = is_stopped phase; phase = phase }

-- the phase after a process was asked to make a step, and refused: the station stops exactly where the fault is one
-- that stops its process
abbrev pub phase_after : Phase → ProcessFault → Phase
phase_after phase fault = if is_stop fault then after_stop phase else phase

-- The process refused a step, and the caller is told so. Where the process goes on, the station is as it was.
pub record IsToldOf (start : Op → ℕ → Start) (old : Desk) (e : Step) (told : LiveFault) (new : Desk) : Type 0 where
  pub fault : ProcessFault
  pub refused : Refused start old.process e fault new.process
  pub same : told ≡ told_of fault
  pub rest : new ≡ in_phase (record old { process = new.process }) (phase_after old.phase fault)

-- a station after a step that was made, with its entry
abbrev pub with_entry : Desk → LogEntry → Kept → ℕ → Desk
with_entry s e process room = record s { log = s.log ++ e ∷ []; process = process; room = room }

-- what is noted of a section with these frames and this reply, at this place
abbrev pub noted : Desk → Step → List Put → Option Reply → ℕ → Desk
noted s e puts reply place =
    record (in_phase s (after_place s.phase place)) {
      links = with_puts (with_step s.links e) puts;
      operation = after_section s.operation e reply place;
    }

-- the phase once the caller waits no more: without an answer the station stops
abbrev pub phase_settled : Phase → Operation → Phase
phase_settled phase Uncalled = after_stop phase
phase_settled phase Running = after_stop phase
phase_settled phase (Answered told) = phase

-- the number of the first frame to another process that isn't acknowledged, where there is one and the station goes on
abbrev pub first_to : Desk → ℕ → Option ℕ
first_to s process = if s.stopped || (process == s.me) then None else first_unacknowledged s.links process

-- a section of this step may stop its station: the process has nothing against the step, so that memory or a place in
-- the journal was refused, or its clock is full
abbrev pub MayStop : (Op → ℕ → Start) → Kept → Step → Type 0
MayStop start process e = (process_fault start process e ≡ None) ⊎ (process_fault start process e ≡ Some ClockFull)

-- after a section that was refused, its process is as it was, or the station has stopped, as `MayStop` says
abbrev pub IsLeft : (Op → ℕ → Start) → Desk → Step → Desk → Type 0
IsLeft start old e new =
    ((new.phase ≡ old.phase) × (new.process ≡ old.process))
    ⊎ ((new.phase ≡ after_stop old.phase) × MayStop start old.process e)
