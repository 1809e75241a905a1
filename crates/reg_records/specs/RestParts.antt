-- The parts of bringing a run to rest. They carry a proof: no promise speaks of them.
use Rattle.std.specs.Prelude.{ℕ, ◌≡◌, ◌+◌, ◌*◌, ◌<◌, ◌≤◌, false, List, ◌++◌, length, None, Some, slice_get}
use Rattle.reg_base.specs.declared.limits.TheConstants.{MOST_EVENTS}
use Rattle.reg_base.specs.declared.memory.Op.{Op}
use Rattle.reg_frames.specs.declared.bodies.Frame.{Frame}
use Rattle.reg_frames.specs.declared.bodies.Frame.TheVariants.{Got}
use Rattle.reg_front.specs.declared.starts.Start.{Start}
use Rattle.reg_checkers.specs.History.{IsAt}
use Rattle.reg_process.specs.Process.{Peer, peer_at, pending_of, resent}
use Rattle.reg_process.specs.declared.events.Event.{Event}
use Rattle.reg_world.specs.Nodes.{Nodes}
use Rattle.reg_world.specs.Worlds.{Made, run_in, refusal, stopped}
use Rattle.reg_records.specs.declared.faults.SettleFault.{SettleFault}
use Rattle.reg_records.specs.declared.faults.SettleFault.TheVariants.{Failed, TooManyEvents, OutOfMemory}
use Rattle.reg_records.specs.Rest.{distance, put_for, IsLater, LacksMemory}

abbrev pub nodes_in : (Op → ℕ → Start) → Made → Nodes
nodes_in start m = (run_in start m).nodes

-- what a process keeps for another, and how many frames it has to have acknowledged
abbrev pub link_in : (Op → ℕ → Start) → Made → ℕ → ℕ → Peer
link_in start m from to = peer_at (nodes_in start m from).state to

abbrev pub pending_in : (Op → ℕ → Start) → Made → ℕ → ℕ
pending_in start m p = pending_of (nodes_in start m p).state.peers

abbrev pub distance_in : (Op → ℕ → Start) → Made → ℕ
distance_in start m = distance m.processes (nodes_in start m)

-- a world that goes on, with the events that its run accepted, and their history
pub record IsGoingOn (start : Op → ℕ → Start) (m : Made) : Type 0 where
  pub going : m.failed ≡ false
  pub accepted : (run_in start m).accepted ≡ m.accepted
  pub history : m.history ≡ (run_in start m).history

-- more events were made, and no frame left its wire
pub record Moves (start : Op → ℕ → Start) (old new : Made) : Type 0 where
  pub on : IsGoingOn start new
  pub processes : new.processes ≡ old.processes
  pub registers : new.registers ≡ old.registers
  pub more : List Event
  pub accepted : new.accepted ≡ old.accepted ++ more
  pub grows : (a b : ℕ) → put_for (nodes_in start old) a b ≤ put_for (nodes_in start new) a b

-- none of the later events takes one of the first frames of its wire: how many these are is given for each wire
pub record AreLaterSince (passed : ℕ → ℕ → ℕ) (old new : Made) : Type 0 where
  pub each : (k : ℕ) (e : Event) → length old.accepted ≤ k → IsAt new.accepted k e → IsLater passed e

-- why an event was not made
abbrev pub Misses : (Op → ℕ → Start) → Made → Event → SettleFault → Made → Type 0
Misses start old e Failed new = ⊥
Misses start old e TooManyEvents new = (MOST_EVENTS ≤ length (run_in start old).accepted) × (new ≡ old)
Misses start old e OutOfMemory new = (refusal start old e ≡ None) × (new ≡ stopped old)

-- why events ended early, with the run not at rest, and that they were fewer than the limit where there was no room for
-- more
abbrev pub Halts : (Op → ℕ → Start) → (ℕ → ℕ → ℕ) → Made → ℕ → SettleFault → Made → Type 0
Halts start passed old limit Failed new = ⊥
Halts start passed old limit TooManyEvents new =
    Moves start old new × AreLaterSince passed old new × (0 < distance_in start new)
    × (length new.accepted ≡ MOST_EVENTS) × (length new.accepted < length old.accepted + limit)
Halts start passed old limit OutOfMemory new =
    (last : Made) × Moves start old last × AreLaterSince passed old last × (0 < distance_in start last)
    × LacksMemory start last new

-- what a tick put again for a process stands at the end of the wire, after the frames that were passed
pub record IsAgain (start : Op → ℕ → Start) (passed : ℕ → ℕ → ℕ) (m : Made) (from to : ℕ) : Type 0 where
  pub before : List Frame
  pub wire : (nodes_in start m from).wire to ≡ before ++ resent (nodes_in start m from).state to
  pub behind : passed from to ≤ length before
  pub back : passed to from ≤ put_for (nodes_in start m) to from

-- Frames put again on one link were taken, and the count that answers the last of them: each of them was acknowledged.
pub record Passes (start : Op → ℕ → Start) (passed : ℕ → ℕ → ℕ) (old : Made) (from to : ℕ) (new : Made) : Type 0 where
  pub moves : Moves start old new
  pub later : AreLaterSince passed old new
  pub spent : length new.accepted + 2 * pending_in start new from ≤ length old.accepted + 2 * pending_in start old from
  pub nearer : distance_in start new + pending_in start old from ≤ distance_in start old + pending_in start new from
  pub less : pending_in start new from ≤ pending_in start old from
  pub some : 0 < length (link_in start old from to).pending → pending_in start new from < pending_in start old from
  pub wires : (r : ℕ) → (nodes_in start new from).wire r ≡ (nodes_in start old from).wire r
  pub links : (r : ℕ) → (r ≡ to → ⊥)
      → resent (nodes_in start new from).state r ≡ resent (nodes_in start old from).state r

-- the frame at this place is the count of those that a process accepted
abbrev pub IsAnswer : (Op → ℕ → Start) → Made → ℕ → ℕ → ℕ → Type 0
IsAnswer start m from to answer =
    slice_get ((nodes_in start m to).wire from) answer ≡ Some (Got (link_in start m to from).expected)

-- `done` of the frames put again were taken, and the last was answered at this place by the count of those accepted
pub record Passing (start : Op → ℕ → Start) (passed : ℕ → ℕ → ℕ) (old : Made) (from to first done answer : ℕ)
    (new : Made) : Type 0 where
  pub moves : Moves start old new
  pub later : AreLaterSince passed old new
  pub count : length new.accepted ≡ length old.accepted + done
  pub same : nodes_in start new from ≡ nodes_in start old from
  pub far : distance_in start new ≡ distance_in start old
  pub expects : first + done ≤ (link_in start new to from).expected
  pub answered : 0 < done → IsAnswer start new from to answer
  pub behind : 0 < done → put_for (nodes_in start old) to from ≤ answer

-- a process ticked, and the frames that it put again for the processes before this one were passed on
pub record Ticked (start : Op → ℕ → Start) (old : Made) (process first to : ℕ) (new : Made) : Type 0 where
  pub moves : Moves start old new
  pub later : AreLaterSince (put_for (nodes_in start old)) old new
  pub ticked : length old.accepted < length new.accepted
  pub spent : length new.accepted + 2 * pending_in start new process
      ≤ length old.accepted + 1 + 2 * pending_in start old process
  pub nearer : distance_in start new + pending_in start old process
      ≤ distance_in start old + pending_in start new process
  pub less : pending_in start new process ≤ pending_in start old process
  pub left : to ≡ first → 0 < length (link_in start new process first).pending
  pub some : first < to → pending_in start new process < pending_in start old process
  pub again : (r : ℕ) → to ≤ r → r < old.processes → (r ≡ process → ⊥)
      → IsAgain start (put_for (nodes_in start old)) new process r

-- the run is nearer to rest, by a third of the events at least
pub record Nears (start : Op → ℕ → Start) (old new : Made) : Type 0 where
  pub moves : Moves start old new
  pub later : AreLaterSince (put_for (nodes_in start old)) old new
  pub nearer : length new.accepted + 3 * distance_in start new ≤ length old.accepted + 3 * distance_in start old

-- a link on which frames are not acknowledged
pub record IsPending (start : Op → ℕ → Start) (m : Made) (from to : ℕ) : Type 0 where
  pub sender : from < m.processes
  pub receiver : to < m.processes
  pub apart : from ≡ to → ⊥
  pub some : 0 < length (link_in start m from to).pending
