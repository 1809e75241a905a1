-- A node that is opened with its log. Promises cite it.
use Rattle.std.specs.Prelude.{ℕ, ◌≡◌, ◌<◌, ◌≤◌, false, List, [], length, take, slice_get, Some}
use Rattle.reg_base.specs.declared.limits.TheConstants.{MOST_EVENTS}
use Rattle.reg_base.specs.declared.memory.Op.{Op}
use Rattle.reg_base.specs.Shape.{Extent}
use Rattle.reg_front.specs.declared.starts.Start.{Start}
use Rattle.reg_process.specs.Process.{State}
use Rattle.reg_process.specs.declared.faults.ProcessFault.{ProcessFault}
use Rattle.reg_process.specs.declared.faults.ProcessFault.TheVariants.{NoProcess as NoSuchProcess}
use Rattle.reg_records.specs.declared.entries.LogEntry.{LogEntry}
use Rattle.reg_node.specs.declared.faults.OpenFault.{OpenFault}
use Rattle.reg_node.specs.declared.faults.OpenFault.TheVariants.{NoProcess, TooLong, NoStep, OutOfMemory}
use Rattle.reg_node.specs.Logs.{IsStep, AreSteps, calls_in, first_state, state_after}
use Rattle.reg_node.specs.Nodes.{NodeState, Past}

-- a node that was just opened with these entries
abbrev pub opened_with : List LogEntry → Past
opened_with log = record { log = log; opened = length log; given = [] }

-- it goes on, all its entries are durable, and nothing is held back
pub record IsOpened (log : List LogEntry) (n : NodeState) : Type 0 where
  pub goes_on : n.process.failed ≡ false
  pub logged : n.logged ≡ length log
  pub calls : n.calls ≡ calls_in log
  pub durable : n.durable ≡ length log
  pub held : n.held ≡ []

-- the entry at this place is the first that is no step in the state after those before it
pub record IsFirstNoStep (start : Op → ℕ → Start) (first : State) (log : List LogEntry) (place : ℕ) : Type 0 where
  pub entry : LogEntry
  pub before : AreSteps start first (take place log)
  pub stands : slice_get log place ≡ Some entry
  pub wrong : ¬ IsStep start (state_after start first (take place log)) entry

-- why no node is opened with these entries
abbrev pub IsOpenFault : (Op → ℕ → Start) → Extent → ℕ → List LogEntry → OpenFault → Type 0
IsOpenFault start shape me log NoProcess = shape.processes ≤ me
IsOpenFault start shape me log TooLong = (me < shape.processes) × (MOST_EVENTS < length log)
IsOpenFault start shape me log (NoStep place) =
    (me < shape.processes) × (length log ≤ MOST_EVENTS) × IsFirstNoStep start (first_state shape me) log place
IsOpenFault start shape me log OutOfMemory = me < shape.processes

-- why there is no process to open a node with
abbrev pub unopened_by : ProcessFault → OpenFault
unopened_by NoSuchProcess = NoProcess
unopened_by fault = OutOfMemory
