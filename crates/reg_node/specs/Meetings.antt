-- A node that casts nothing until it has heard from all others, and finds out that its log was lost. Promises cite it.
use Rattle.std.specs.Prelude.{ℕ, ◌≡◌, ◌<◌, ◌≤◌, ◌⊎◌, ◌&&◌, Bool, true, false, List, [], ◌∷◌, replicate, slice_set}
use Rattle.reg_base.specs.declared.memory.Op.{Op}
use Rattle.reg_front.specs.declared.starts.Start.{Start}
use Rattle.reg_process.specs.declared.steps.Step.{Step}
use Rattle.reg_process.specs.declared.steps.Step.TheVariants.{Call, Take, Tick}
use Rattle.reg_process.specs.Faults.{is_cast}
use Rattle.reg_process.specs.Known.{IsNoPeer}
use Rattle.reg_process.specs.Process.{State, next_of, peer_at, unsettled}
use Rattle.reg_records.specs.declared.entries.LogEntry.{LogEntry}
use Rattle.reg_node.specs.declared.faults.HelloFault.{HelloFault}
use Rattle.reg_node.specs.declared.faults.HelloFault.TheVariants.{LogLost as FoundLost, NoPeer}
use Rattle.reg_node.specs.declared.faults.MeetingFault.{MeetingFault}
use Rattle.reg_node.specs.declared.faults.MeetingFault.TheVariants.{LogLost, Unheard, OfNode}
use Rattle.reg_node.specs.Logs.{Outgoing}
use Rattle.reg_node.specs.Nodes.{NodeState, Logs, LogsNothing, HandsOut, HandsOutNothing}

-- Such a node as contracts see it, with whether it has heard from each process, and whether it has found out that its
-- log was lost.
pub record MeetingState : Type 0 where
  pub node : NodeState
  pub heard : List Bool
  pub lost : Bool

-- at first each process has heard from itself alone
abbrev pub heard_at_first : ℕ → ℕ → List Bool
heard_at_first processes me = slice_set (replicate processes false) me true

abbrev pub all_heard : List Bool → Bool
all_heard [] = true
all_heard (h ∷ hs) = h && all_heard hs

-- how many bodies its process ever queued for another one
abbrev pub queued_for : MeetingState → ℕ → ℕ
queued_for m other = next_of (peer_at m.node.process.state other)

-- the other process says that it accepted this number of bodies, and so many were queued for it
pub record Hears (old : MeetingState) (other count : ℕ) (new : MeetingState) : Type 0 where
  pub kept : old.lost ≡ false
  pub queued : count ≤ queued_for old other
  pub rest : new ≡ record old { heard = slice_set old.heard other true }

-- it says more, now or before, so that the log was lost; or there is no such process
abbrev pub HearsNothing : MeetingState → ℕ → ℕ → HelloFault → MeetingState → Type 0
HearsNothing old other count FoundLost new =
    ((old.lost ≡ true) ⊎ (queued_for old other < count)) × (new ≡ record old { lost = true })
HearsNothing old other count NoPeer new = IsNoPeer old.node.process.state other × (new ≡ old)

-- whether a step makes a cast of its own
abbrev pub casts : (Op → ℕ → Start) → State → Step → Bool
casts start s (Call op) = is_cast (start op (unsettled s))
casts start s (Take from frame) = false
casts start s Tick = false

-- the node made a step; a cast of its own it made only where it had heard from all
pub record MeetingLogs (start : Op → ℕ → Start) (old : MeetingState) (e : Step) (entry : LogEntry)
    (new : MeetingState) : Type 0 where
  pub kept : old.lost ≡ false
  pub heard : casts start old.node.process.state e ≡ true → all_heard old.heard ≡ true
  pub made : Logs start old.node e entry new.node
  pub rest : new ≡ record old { node = new.node }

-- no step was made
abbrev pub MeetingLogsNothing : (Op → ℕ → Start) → MeetingState → Step → MeetingFault → MeetingState → Type 0
MeetingLogsNothing start old e LogLost new = (old.lost ≡ true) × (new ≡ old)
MeetingLogsNothing start old e Unheard new =
    (casts start old.node.process.state e ≡ true) × (all_heard old.heard ≡ false) × (new ≡ old)
MeetingLogsNothing start old e (OfNode fault) new =
    LogsNothing start old.node e fault new.node × (new ≡ record old { node = new.node })

-- the node handed something out
pub record MeetingHandsOut (old : MeetingState) (output : Outgoing) (new : MeetingState) : Type 0 where
  pub kept : old.lost ≡ false
  pub made : HandsOut old.node output new.node
  pub rest : new ≡ record old { node = new.node }

-- or nothing, since nothing is due or the log was lost
abbrev pub MeetingHandsOutNothing : MeetingState → MeetingState → Type 0
MeetingHandsOutNothing old new = ((old.lost ≡ true) ⊎ HandsOutNothing old.node old.node) × (new ≡ old)
