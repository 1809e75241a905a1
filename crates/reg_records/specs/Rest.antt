-- How far a run is from rest, and what bringing it there does.
use Rattle.std.specs.Prelude.{ℕ, ◌≡◌, ◌+◌, ◌-◌, ◌*◌, ◌<◌, ◌≤◌, Bool, true, false, ◌==◌, cond, List, ◌++◌, length, drop}
use Rattle.std.specs.Prelude.{None}
use Rattle.std.specs.List.{count_by}
use Rattle.reg_base.specs.declared.limits.TheConstants.{MOST_EVENTS}
use Rattle.reg_base.specs.declared.memory.Op.{Op}
use Rattle.reg_base.specs.Order.{In}
use Rattle.reg_base.specs.Sums.{total}
use Rattle.reg_frames.specs.declared.bodies.Body.{Body}
use Rattle.reg_frames.specs.declared.bodies.Body.TheVariants.{Cast, Ack}
use Rattle.reg_front.specs.declared.starts.Start.{Start}
use Rattle.reg_process.specs.Process.{peer_at, pending_of}
use Rattle.reg_process.specs.declared.events.Event.{Event}
use Rattle.reg_process.specs.declared.events.Event.TheVariants.{Call, Take, Tick}
use Rattle.reg_world.specs.Laws.{AllAcknowledged, IsQuiescent}
use Rattle.reg_world.specs.Nodes.{Nodes}
use Rattle.reg_world.specs.World.{whole}
use Rattle.reg_world.specs.Worlds.{Made, run_in, refusal, stopped}
use Rattle.reg_records.specs.declared.faults.SettleFault.{SettleFault}
use Rattle.reg_records.specs.declared.faults.SettleFault.TheVariants.{Failed, TooManyEvents, OutOfMemory}

abbrev pub is_cast : Body → Bool
is_cast (Cast time op) = true
is_cast (Ack time) = false

-- how many casts of one process another one has not accepted
abbrev pub casts_between : Nodes → ℕ → ℕ → ℕ
casts_between w from to = count_by is_cast (drop (peer_at (w to).state from).expected (w from).queued)

-- how many casts, of all others, a process has not accepted
abbrev pub casts_to : ℕ → Nodes → ℕ → ℕ
casts_to n w p = total n (λ q. cond (q == p) 0 (casts_between w q p))

-- What a process has to have acknowledged, now or later: its data frames that are not yet, over all links; and an
-- acknowledgement for each cast that it has not accepted, which it will put for every other process.
abbrev pub left_at : ℕ → Nodes → ℕ → ℕ
left_at n w p = pending_of (w p).state.peers + casts_to n w p * (n - 1)

-- how far from rest: what all processes have to have acknowledged
abbrev pub distance : ℕ → Nodes → ℕ
distance n w = total n (left_at n w)

-- a bound on the events that bring a run to rest: three for each frame that has to be acknowledged
abbrev pub most_to_rest : ℕ → Nodes → ℕ
most_to_rest n w = 3 * distance n w

-- how many frames one process ever put for another
abbrev pub put_for : Nodes → ℕ → ℕ → ℕ
put_for w from to = length ((w from).wire to)

-- a tick, or a take of a frame after the first ones of its wire: how many these are is given for each wire
abbrev pub IsLater : (ℕ → ℕ → ℕ) → Event → Type 0
IsLater passed (Call p op) = ⊥
IsLater passed (Take from to number) = passed from to ≤ number
IsLater passed (Tick p) = Unit {0}

-- ticks and takes alone, and no take of a frame that was put before
abbrev pub AreLater : Nodes → List Event → Type 0
AreLater w events = (e : Event) → In e events → IsLater (put_for w) e

-- a world with more events
abbrev pub with_events : (Op → ℕ → Start) → Made → List Event → Made
with_events start w more =
    record w {
      accepted = w.accepted ++ more;
      history = (whole start w.processes w.registers (w.accepted ++ more)).history;
    }

-- More ticks and takes, each accepted, were made after the events before.
pub record GoesOn (start : Op → ℕ → Start) (old : Made) (new : Made) : Type 0 where
  pub more : List Event
  pub later : AreLater (run_in start old).nodes more
  pub after : new ≡ with_events start old more
  pub accepted : (run_in start new).accepted ≡ new.accepted

-- The run was brought to rest by the given number of events.
pub record Settles (start : Op → ℕ → Start) (old : Made) (count : ℕ) (new : Made) : Type 0 where
  pub going : old.failed ≡ false
  pub goes : GoesOn start old new
  pub made : length new.accepted ≡ length old.accepted + count
  pub few : count ≤ most_to_rest old.processes (run_in start old).nodes
  pub acknowledged : AllAcknowledged new.processes (run_in start new).nodes
  pub quiescent : IsQuiescent new.processes (run_in start new).nodes

-- memory was refused for an event to which no fault applied, and the world has stopped
abbrev pub LacksMemory : (Op → ℕ → Start) → Made → Made → Type 0
LacksMemory start last new = ((e : Event) × (refusal start last e ≡ None)) × (new ≡ stopped last)

-- Why a run was not brought to rest: the world had stopped before; or after more events it was not at rest, and there
-- were all the events that a world may have, which are fewer than the bound asks for, or memory was refused.
abbrev pub Stops : (Op → ℕ → Start) → Made → SettleFault → Made → Type 0
Stops start old Failed new = (old.failed ≡ true) × (new ≡ old)
Stops start old TooManyEvents new =
    (old.failed ≡ false) × GoesOn start old new × (0 < distance new.processes (run_in start new).nodes)
    × (length new.accepted ≡ MOST_EVENTS)
    × (MOST_EVENTS < length old.accepted + most_to_rest old.processes (run_in start old).nodes)
Stops start old OutOfMemory new =
    (old.failed ≡ false) × (last : Made) × GoesOn start old last
    × (0 < distance last.processes (run_in start last).nodes) × LacksMemory start last new

-- A run that can come to rest, by at most as many ticks and takes as the bound says, each accepted, and no take of a
-- frame that was put before.
pub record CanRest (start : Op → ℕ → Start) (n registers : ℕ) (events : List Event) : Type 0 where
  pub more : List Event
  pub later : AreLater (whole start n registers events).nodes more
  pub few : length more ≤ most_to_rest n (whole start n registers events).nodes
  pub accepted : (whole start n registers (events ++ more)).accepted ≡ (whole start n registers events).accepted ++ more
  pub acknowledged : AllAcknowledged n (whole start n registers (events ++ more)).nodes
  pub quiescent : IsQuiescent n (whole start n registers (events ++ more)).nodes
