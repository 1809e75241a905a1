-- What each process of a run did, with nothing of when. To be believed: promises speak of it.
use Rattle.std.specs.Prelude.{ℕ, ◌≡◌, ◌<◌, ◌==◌, cond, List, [], ◌∷◌, ◌++◌, Option, Some, None}
use Rattle.reg_base.specs.declared.memory.Op.{Op}
use Rattle.reg_front.specs.declared.starts.Start.{Start}
use Rattle.reg_process.specs.declared.steps.Step.{Step}
use Rattle.reg_process.specs.declared.events.Event.{Event}
use Rattle.reg_world.specs.World.{World, move_of, happens, empty_world}

-- the step of an event, where it is one of this process
abbrev pub step_in : ℕ → Option (ℕ × Step) → List Step
step_in p None = []
step_in p (Some m) = cond (p == m.0) (m.1 ∷ []) []

-- the steps that a process makes by these events, from this world on; a refused event makes none
abbrev pub steps_from : (Op → ℕ → Start) → ℕ → ℕ → ℕ → List Event → World → List Step
steps_from start n registers p [] w = []
steps_from start n registers p (e ∷ es) w =
    step_in p (move_of n registers w e) ++ steps_from start n registers p es (happens start n registers w e)

abbrev pub steps_of : (Op → ℕ → Start) → ℕ → ℕ → List Event → ℕ → List Step
steps_of start n registers events p = steps_from start n registers p events (empty_world n registers)

-- In both runs each process makes the same steps, in the same order. Whose step comes before whose is left open.
abbrev pub HaveSameSteps : (Op → ℕ → Start) → ℕ → ℕ → List Event → List Event → Type 0
HaveSameSteps start n registers a b = (p : ℕ) → p < n → steps_of start n registers a p ≡ steps_of start n registers b p
