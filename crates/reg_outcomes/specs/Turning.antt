-- Turns from rest to rest: one process calls an operation, which is accepted, and the run comes to rest again. They
-- carry a proof: no promise speaks of them.
use Rattle.std.specs.Prelude.{ℕ, ◌≡◌, ◌+◌, ◌-◌, ◌*◌, ◌<◌, ◌≤◌, List, [], ◌∷◌, ◌++◌, length, slice_index}
use Rattle.reg_base.specs.declared.limits.TheConstants.{MOST_EVENTS, MOST_OPERATIONS}
use Rattle.reg_base.specs.declared.memory.Op.{Op}
use Rattle.reg_base.specs.Memory.{register_of}
use Rattle.reg_front.specs.declared.starts.Start.{Start}
use Rattle.reg_process.specs.declared.events.Event.{Event}
use Rattle.reg_process.specs.declared.events.Event.TheVariants.{Call}
use Rattle.reg_checkers.specs.History.{IsAt}
use Rattle.reg_records.specs.Rest.{CanRest}
use Rattle.reg_records.specs.RestParts.{IsGoingOn}
use Rattle.reg_world.specs.Laws.{AllAcknowledged}
use Rattle.reg_world.specs.World.{whole}
use Rattle.reg_world.specs.Worlds.{Made}
use Rattle.reg_outcomes.specs.Interleavings.{Stage, script_of, stage_after}

-- the most events of a turn of n processes
abbrev pub turn_events : ℕ → ℕ
turn_events n = 1 + 3 * (n * (n - 1))

-- a run at rest, and an operation that a process of it may call
pub record MayTurn (start : Op → ℕ → Start) (n registers : ℕ) (events : List Event) (p : ℕ) (op : Op) : Type 0 where
  pub process : p < n
  pub known : register_of op < registers
  pub fits : ((whole start n registers events).nodes p).state.calls < MOST_OPERATIONS
  pub none : AllAcknowledged n (whole start n registers events).nodes
  pub room : length (whole start n registers events).accepted + turn_events n ≤ MOST_EVENTS

-- a process called an operation in a run at rest, and the run came to rest again
pub record IsTurn (start : Op → ℕ → Start) (n registers : ℕ) (events : List Event) (p : ℕ) (op : Op)
    (new : Made) : Type 0 where
  pub rest : CanRest start n registers (events ++ Call p op ∷ [])
  pub few : length rest.more ≤ 3 * (n * (n - 1))
  pub on : IsGoingOn start new
  pub as_many : new.processes ≡ n
  pub as_wide : new.registers ≡ registers
  pub accepted : new.accepted ≡ (events ++ Call p op ∷ []) ++ rest.more

-- turns, one after another, lead from one stage to another
abbrev pub GoesTo : List (List Op) → Stage → List ℕ → Stage → Type 0
GoesTo scripts s [] last = s ≡ last
GoesTo scripts s (p ∷ turns) last =
    (op : Op) × IsAt (script_of scripts p) (slice_index s.next p) op × GoesTo scripts (stage_after p op s) turns last
