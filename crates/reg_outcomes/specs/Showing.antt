-- A run that has an outcome. To be believed: promises speak of it.
use Rattle.std.specs.Prelude.{ℕ, ◌≡◌, List, [], ◌∷◌, length}
use Rattle.std.specs.List.{flat_map}
use Rattle.reg_base.specs.declared.memory.Op.{Op}
use Rattle.reg_front.specs.declared.starts.Start.{Start}
use Rattle.reg_process.specs.declared.events.Event.{Event}
use Rattle.reg_process.specs.declared.events.Event.TheVariants.{Call, Take, Tick}
use Rattle.reg_world.specs.Worlds.{Made, after_events}
use Rattle.reg_outcomes.specs.declared.turning.TurnsFault.{TurnsFault}
use Rattle.reg_outcomes.specs.declared.turning.TurnsFault.TheVariants.{TooManyEvents, OutOfMemory}
use Rattle.reg_outcomes.specs.Finishing.{HasRoom, UsesUp, told_by}
use Rattle.reg_outcomes.specs.Interleavings.{Interleaving}

-- the processes that call, in the order of their calls
abbrev pub caller_in : Event → List ℕ
caller_in (Call p op) = p ∷ []
caller_in (Take from to number) = []
caller_in (Tick p) = []

abbrev pub callers : List Event → List ℕ
callers events = flat_map caller_in events

-- The world is the run of its events, one process for each script. They use the scripts up, by calls in the order of
-- the interleaving's turns, and what it tells is told.
pub record IsRunOf (start : Op → ℕ → Start) (scripts : List (List Op)) (registers : ℕ) (i : Interleaving)
    (w : Made) : Type 0 where
  pub made : w ≡ after_events start (record { processes = length scripts; registers = registers }) w.accepted
  pub uses_up : UsesUp start scripts registers w.accepted
  pub turns : callers w.accepted ≡ i.turns
  pub told : told_by start scripts registers w.accepted ≡ i.told

-- why no run of an outcome is made
abbrev pub IsTurnsFault : List (List Op) → TurnsFault → Type 0
IsTurnsFault scripts TooManyEvents = ¬ HasRoom scripts
IsTurnsFault scripts OutOfMemory = Unit {0}
