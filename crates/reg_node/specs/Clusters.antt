-- All nodes of a cluster, over a network that loses, repeats and reorders, with crashes. Promises cite it.
use Rattle.std.specs.Prelude.{ℕ, zero, suc, ◌≡◌, ◌<◌, ◌≤◌, ◌⊎◌, List, [], ◌∷◌, ◌++◌, length, map, take, slice_get}
use Rattle.std.specs.Prelude.{slice_set, Some, Ok}
use Rattle.reg_base.specs.declared.memory.Op.{Op}
use Rattle.reg_base.specs.Order.{In}
use Rattle.reg_base.specs.Shape.{Extent}
use Rattle.reg_frames.specs.declared.bodies.Frame.{Frame}
use Rattle.reg_front.specs.declared.starts.Start.{Start}
use Rattle.reg_process.specs.declared.steps.Step.{Step}
use Rattle.reg_process.specs.declared.steps.Step.TheVariants.{Call, Take, Tick}
use Rattle.reg_process.specs.Process.{State}
use Rattle.reg_process.specs.Puts.{put_to}
use Rattle.reg_records.specs.declared.entries.LogEntry.{LogEntry}
use Rattle.reg_node.specs.declared.faults.NodeFault.{NodeFault}
use Rattle.reg_node.specs.Logs.{Outgoing, first_state, outputs_of}
use Rattle.reg_node.specs.Nodes.{NodeState, Logs, LogsNothing, HandsOut, Lives, Past, marked, nothing_yet, past_logged}
use Rattle.reg_node.specs.Nodes.{past_given}
use Rattle.reg_node.specs.Opening.{opened_with}

-- A node with what it did since it was opened last, and all that it ever handed out, before its crashes too.
pub record Member : Type 0 where
  pub past : Past
  pub node : NodeState
  pub handed : List Outgoing

abbrev pub logs_of : List Member → List (List LogEntry)
logs_of cluster = map (λ (m : Member). m.past.log) cluster

-- the member at the place `from` once handed out this frame for the process `to`
pub record WasHandedOut (cluster : List Member) (from to : ℕ) (frame : Frame) : Type 0 where
  pub sender : Member
  pub stands : slice_get cluster from ≡ Some sender
  pub output : Outgoing
  pub handed : In output sender.handed
  pub put : In (put_to to frame) output.frames

-- What comes to a process. A call and a tick come at any time. A frame comes only where it was handed out, but maybe
-- never, more than once, late, and out of order.
abbrev pub Comes : List Member → ℕ → Step → Type 0
Comes cluster me (Call op) = Unit {0}
Comes cluster me (Take from frame) = WasHandedOut cluster from me frame
Comes cluster me Tick = Unit {0}

-- the member logs a step that comes
pub record LogsStep (start : Op → ℕ → Start) (cluster : List Member) (me : ℕ) (old new : Member) : Type 0 where
  pub step : Step
  pub entry : LogEntry
  pub comes : Comes cluster me step
  pub logs : Logs start old.node step entry new.node
  pub past : new.past ≡ past_logged {E = NodeFault} old.past (Ok entry)
  pub handed : new.handed ≡ old.handed

-- it refuses a step, whatever step it is
pub record RefusesStep (start : Op → ℕ → Start) (old new : Member) : Type 0 where
  pub step : Step
  pub fault : NodeFault
  pub refuses : LogsNothing start old.node step fault new.node
  pub past : new.past ≡ old.past
  pub handed : new.handed ≡ old.handed

-- it is told that so many of its first entries are durable
pub record MarksDurable (old new : Member) : Type 0 where
  pub count : ℕ
  pub within : count ≤ old.node.logged
  pub rest : new ≡ record old { node = marked old.node count }

-- it hands out what it holds first
pub record HandsOutNext (old new : Member) : Type 0 where
  pub output : Outgoing
  pub hands_out : HandsOut old.node output new.node
  pub past : new.past ≡ past_given old.past (Some output)
  pub handed : new.handed ≡ old.handed ++ output ∷ []

-- It crashes, and is opened again with the first entries of its log. Of those that it was told are durable it loses
-- only such as put no frame: a read that is answered at once puts none. What it handed out stays handed out.
pub record CrashesAndOpens (start : Op → ℕ → Start) (first : State) (old new : Member) : Type 0 where
  pub kept : ℕ
  pub keeps : (k : ℕ) (output : Outgoing) → kept ≤ k → k < old.node.durable
      → slice_get (outputs_of start first old.past.log) k ≡ Some output → output.frames ≡ []
  pub past : new.past ≡ opened_with (take kept old.past.log)
  pub lives : Lives start first new.past new.node
  pub handed : new.handed ≡ old.handed

-- one thing happens to the member that is the process `me`
abbrev pub HappensTo : (Op → ℕ → Start) → Extent → List Member → ℕ → Member → Member → Type 0
HappensTo start shape cluster me old new =
    LogsStep start cluster me old new
    ⊎ (RefusesStep start old new
    ⊎ (MarksDurable old new
    ⊎ (HandsOutNext old new
    ⊎ CrashesAndOpens start (first_state shape me) old new)))

-- one thing happens in the cluster: to one member, and the others stay as they are
pub record Happens (start : Op → ℕ → Start) (shape : Extent) (old new : List Member) : Type 0 where
  pub process : ℕ
  pub was : Member
  pub becomes : Member
  pub stands : slice_get old process ≡ Some was
  pub happens : HappensTo start shape old process was becomes
  pub rest : new ≡ slice_set old process becomes

-- a member that did nothing yet
pub record IsNewMember (start : Op → ℕ → Start) (first : State) (m : Member) : Type 0 where
  pub past : m.past ≡ nothing_yet
  pub lives : Lives start first nothing_yet m.node
  pub handed : m.handed ≡ []

-- a cluster in which nothing happened yet: a new member for each process
pub record IsNewCluster (start : Op → ℕ → Start) (shape : Extent) (cluster : List Member) : Type 0 where
  pub count : length cluster ≡ shape.processes
  pub each : (p : ℕ) (m : Member) → slice_get cluster p ≡ Some m → IsNewMember start (first_state shape p) m

-- this is a cluster of the shape in which so many things happened, one after another
abbrev pub Happened : (Op → ℕ → Start) → Extent → ℕ → List Member → Type 0
Happened start shape zero cluster = IsNewCluster start shape cluster
Happened start shape (suc k) cluster =
    (before : List Member) × Happened start shape k before × Happens start shape before cluster
