-- Logs of one process, and what goes out of their steps. Promises cite it.
use Rattle.std.specs.Prelude.{ℕ, ◌≡◌, Bool, true, false, List, [], ◌∷◌, length, count_by, Option, None}
use Rattle.reg_base.specs.declared.memory.Op.{Op}
use Rattle.reg_base.specs.Shape.{Extent}
use Rattle.reg_frames.specs.declared.puts.Put.{Put}
use Rattle.reg_front.specs.declared.starts.Start.{Start}
use Rattle.reg_process.specs.declared.steps.Reply.{Reply}
use Rattle.reg_process.specs.declared.steps.Step.{Step}
use Rattle.reg_process.specs.declared.steps.Step.TheVariants.{Call, Take, Tick}
use Rattle.reg_process.specs.Process.{State, step}
use Rattle.reg_process.specs.Faults.{step_fault}
use Rattle.reg_process.specs.Parts.{state_of, first_parts}
use Rattle.reg_process.specs.Puts.{puts}
use Rattle.reg_records.specs.declared.entries.LogEntry.{LogEntry}

-- a process that did nothing yet
abbrev pub first_state : Extent → ℕ → State
first_state shape me = state_of (first_parts me shape.processes shape.registers)

-- what goes out of one step: frames for other processes, and the reply to the caller
pub record Outgoing : Type 0 where
  pub frames : List Put
  pub reply : Option Reply

abbrev pub output_of : (Op → ℕ → Start) → State → Step → Outgoing
output_of start s e =
    record { frames = puts (step start s e).1.frames (length s.peers); reply = (step start s e).1.reply }

-- the entry is a step that the process makes in this state, with its reply
pub record IsStep (start : Op → ℕ → Start) (s : State) (entry : LogEntry) : Type 0 where
  pub accepted : step_fault start s entry.step ≡ None
  pub reply : entry.reply ≡ (step start s entry.step).1.reply

-- the state after the steps of a log that begins at a state
abbrev pub state_after : (Op → ℕ → Start) → State → List LogEntry → State
state_after start s [] = s
state_after start s (e ∷ es) = state_after start (step start s e.step).0 es

-- each entry of such a log is a step in the state after those before it
abbrev pub AreSteps : (Op → ℕ → Start) → State → List LogEntry → Type 0
AreSteps start s [] = Unit {0}
AreSteps start s (e ∷ es) = IsStep start s e × AreSteps start (step start s e.step).0 es

-- whether a step is a call
abbrev pub is_call : Step → Bool
is_call (Call op) = true
is_call (Take from frame) = false
is_call Tick = false

-- how many of these entries are calls
abbrev pub calls_in : List LogEntry → ℕ
calls_in log = count_by (λ (e : LogEntry). is_call e.step) log

-- what goes out of the steps, one after another
abbrev pub outputs_of : (Op → ℕ → Start) → State → List LogEntry → List Outgoing
outputs_of start s [] = []
outputs_of start s (e ∷ es) = output_of start s e.step ∷ outputs_of start (step start s e.step).0 es
