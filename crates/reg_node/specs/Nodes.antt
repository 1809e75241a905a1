-- One node: what each input does to it, and what it did since it was opened. Promises cite it.
use Rattle.std.specs.Prelude.{ℕ, ◌≡◌, ◌<◌, ◌≤◌, ◌+◌, ◌-◌, ◌++◌, List, [], ◌∷◌, length, drop, max, false, Option, None}
use Rattle.std.specs.Prelude.{Some, Result, Ok, Err}
use Rattle.reg_base.specs.declared.limits.TheConstants.{MOST_EVENTS}
use Rattle.reg_base.specs.declared.memory.Op.{Op}
use Rattle.reg_base.specs.declared.stamps.Stamp.{Stamp}
use Rattle.reg_base.specs.declared.stamps.Delivered.{Delivered}
use Rattle.reg_front.specs.declared.starts.Start.{Start}
use Rattle.reg_process.specs.declared.steps.Step.{Step}
use Rattle.reg_process.specs.Process.{State}
use Rattle.reg_process.specs.Events.{Kept, Steps, Refused as RefusedBy}
use Rattle.reg_records.specs.declared.entries.LogEntry.{LogEntry}
use Rattle.reg_node.specs.declared.faults.NodeFault.{NodeFault}
use Rattle.reg_node.specs.declared.faults.NodeFault.TheVariants.{Full, NoRoom, Refused}
use Rattle.reg_node.specs.Logs.{Outgoing, AreSteps, calls_in, state_after, outputs_of}

-- A node as contracts see it: its process, how many entries it logged, how many of them are calls, how many it was told
-- are durable, and what went out of its last steps and is held back, in their order.
pub record NodeState : Type 0 where
  pub process : Kept
  pub logged : ℕ
  pub calls : ℕ
  pub durable : ℕ
  pub held : List Outgoing

-- the place in the log of the entry whose output is held first
abbrev pub first_held : NodeState → ℕ
first_held n = n.logged - length n.held

-- One step was made, as the process says. Its entry is the last of the log, and its output is held behind the others.
pub record Logs (start : Op → ℕ → Start) (old : NodeState) (e : Step) (entry : LogEntry)
    (new : NodeState) : Type 0 where
  pub output : Outgoing
  pub cast : Option Stamp
  pub delivered : List Delivered
  pub room : old.logged < MOST_EVENTS
  pub made : Steps start old.process e output.frames cast delivered output.reply new.process
  pub written : entry ≡ record { step = e; reply = output.reply }
  pub rest : new
      ≡ record {
        process = new.process;
        logged = old.logged + 1;
        calls = old.calls + calls_in (entry ∷ []);
        durable = old.durable;
        held = old.held ++ output ∷ [];
      }

-- no step was made, and nothing is logged or held: the process refuses it, or else nothing has changed
abbrev pub LogsNothing : (Op → ℕ → Start) → NodeState → Step → NodeFault → NodeState → Type 0
LogsNothing start old e Full new = (MOST_EVENTS ≤ old.logged) × (new ≡ old)
LogsNothing start old e NoRoom new = (old.logged < MOST_EVENTS) × (new ≡ old)
LogsNothing start old e (Refused fault) new =
    (old.logged < MOST_EVENTS) × RefusedBy start old.process e fault new.process
    × (new ≡ record old { process = new.process })

-- the first entries were said to be durable
abbrev pub marked : NodeState → ℕ → NodeState
marked n count = record n { durable = max n.durable count }

-- what is held first was handed out: its entry is durable
pub record HandsOut (old : NodeState) (output : Outgoing) (new : NodeState) : Type 0 where
  pub due : first_held old < old.durable
  pub held : old.held ≡ output ∷ new.held
  pub rest : new ≡ record old { held = new.held }

-- nothing was: no entry whose output is held is durable
abbrev pub HandsOutNothing : NodeState → NodeState → Type 0
HandsOutNothing old new = (old.durable ≤ first_held old) × (new ≡ old)

-- What a node did: all entries of its log, how many of them it was opened with, and what it handed out since then.
pub record Past : Type 0 where
  pub log : List LogEntry
  pub opened : ℕ
  pub given : List Outgoing

-- a node that did nothing yet
abbrev pub nothing_yet : Past
nothing_yet = record { log = []; opened = 0; given = [] }

-- after an input, which added an entry to the log or didn't
abbrev pub past_logged : {E : Type 0} → Past → Result LogEntry E → Past
past_logged past (Ok entry) = record past { log = past.log ++ entry ∷ [] }
past_logged past (Err fault) = past

-- after something was handed out, or nothing
abbrev pub past_given : Past → Option Outgoing → Past
past_given past None = past
past_given past (Some output) = record past { given = past.given ++ output ∷ [] }

-- This is what the node did, where its process was in the first state.
pub record Lives (start : Op → ℕ → Start) (first : State) (past : Past) (n : NodeState) : Type 0 where
  -- the entries are all steps that its process made from the first state on, and it is in the state after them
  pub steps : AreSteps start first past.log
  pub process : n.process.failed ≡ false → n.process.state ≡ state_after start first past.log
  pub logged : n.logged ≡ length past.log
  pub calls : n.calls ≡ calls_in past.log
  -- what it handed out, and then what it holds, is what went out of its steps since it was opened, each once, in order
  pub outputs : past.given ++ n.held ≡ drop past.opened (outputs_of start first past.log)
  -- what it handed out went out of steps whose entries are durable
  pub write_ahead : past.opened + length past.given ≤ n.durable
  pub within : n.durable ≤ n.logged
