-- Runs that use scripts up, and what they tell. To be believed: promises speak of it.
use Rattle.std.specs.Prelude.{ℕ, ◌≡◌, ◌+◌, ◌-◌, ◌*◌, ◌<◌, ◌≤◌, List, length, None}
use Rattle.std.specs.List.{sum_by}
use Rattle.reg_base.specs.declared.limits.TheConstants.{MOST_EVENTS}
use Rattle.reg_base.specs.declared.memory.Op.{Op}
use Rattle.reg_front.specs.declared.starts.Start.{Start}
use Rattle.reg_process.specs.declared.events.Event.{Event}
use Rattle.reg_world.specs.World.{whole}
use Rattle.reg_workload.specs.Plays.{calls_of}
use Rattle.reg_outcomes.specs.declared.told.ToldAnswer.{ToldAnswer}
use Rattle.reg_outcomes.specs.Told.{outcome_of}
use Rattle.reg_checkers.specs.declared.entries.Entry.{Entry}
use Rattle.reg_checkers.specs.History.{IsAt, IsFinished}
use Rattle.reg_outcomes.specs.Interleavings.{Interleaving, script_of}

-- Each of these events is accepted, by them each process calls the operations of its script, in order and no other, and
-- in the end nobody is busy. There is a script for each process.
pub record UsesUp (start : Op → ℕ → Start) (scripts : List (List Op)) (registers : ℕ)
    (events : List Event) : Type 0 where
  pub accepted : (whole start (length scripts) registers events).accepted ≡ events
  pub called : (p : ℕ) → p < length scripts → calls_of p events ≡ script_of scripts p
  pub idle : (p : ℕ) → p < length scripts
      → ((whole start (length scripts) registers events).nodes p).state.running ≡ None

-- each operation of the scripts has its answer
abbrev pub AllAnswered : List (List Op) → List Entry → Type 0
AllAnswered scripts h =
    (p k : ℕ) (op : Op) → IsAt (script_of scripts p) k op → IsFinished h (record { process = p; number = k })

-- what the operations of these events told, by process and then by number
abbrev pub told_by : (Op → ℕ → Start) → List (List Op) → ℕ → List Event → List ToldAnswer
told_by start scripts registers events =
    outcome_of (length scripts) (whole start (length scripts) registers events).history

-- some run that uses the scripts up has this outcome
abbrev pub IsOutcome : (Op → ℕ → Start) → List (List Op) → ℕ → List ToldAnswer → Type 0
IsOutcome start scripts registers told =
    (events : List Event) × UsesUp start scripts registers events × (told_by start scripts registers events ≡ told)

-- These interleavings tell all outcomes of runs that use the scripts up, and no other.
pub record HaveAllOutcomes (start : Op → ℕ → Start) (scripts : List (List Op)) (registers : ℕ)
    (found : List Interleaving) : Type 0 where
  pub each : (k : ℕ) (i : Interleaving) → IsAt found k i → IsOutcome start scripts registers i.told
  pub all : (told : List ToldAnswer) → IsOutcome start scripts registers told
      → (k : ℕ) × (i : Interleaving) × IsAt found k i × (i.told ≡ told)

-- A run has room to call the operations one after another, and to come to rest after each: by a call, and by three
-- events for each frame that it makes needed, which is a cast or an acknowledgement from each process to each other.
abbrev pub HasRoom : List (List Op) → Type 0
HasRoom scripts = sum_by length scripts * (1 + 3 * (length scripts * (length scripts - 1))) ≤ MOST_EVENTS
