-- The first event of a plan that is refused, by what a run of its events tells.
use Rattle.std.proofs.Common.{◌≡◌, ◌≢◌, ℕ, List, take, Some, refl}
use Rattle.reg_world.specs.declared.faults.RunFault.{RunFault}
use Rattle.reg_base.specs.declared.memory.Op.{Op}
use Rattle.reg_base.specs.Shape.{Extent}
use Rattle.reg_front.specs.declared.starts.Start.{Start}
use Rattle.reg_checkers.specs.History.{IsAt}
use Rattle.reg_process.specs.declared.events.Event.{Event}
use Rattle.reg_world.specs.declared.faults.WorldFault.{WorldFault}
use Rattle.reg_world.specs.declared.faults.WorldFault.TheVariants.{Failed, TooManyEvents, NoProcess, Busy, NoRegister}
use Rattle.reg_world.specs.declared.faults.WorldFault.TheVariants.{TooManyOperations, NoFrame, OutOfMemory}
use Rattle.reg_world.specs.Worlds.{RunRefuses, refusal, run_in, after_events}
use Rattle.reg_inputs.specs.Schedules.{Plan}
use Rattle.reg_commands.specs.Replays.{BlamesRun, IsFirstRefused, fault_at, fault_of_run, run_before}

module _ (start : Op → ℕ → Start) (p : Plan) (at : ℕ) where
  first : (fault : WorldFault) → (run_before start p at).accepted ≡ take at p.events → (e : Event) × IsAt p.events at e × (refusal start (after_events start p.shape (take at p.events)) e ≡ Some fault) → IsFirstRefused start p at fault
  first fault before (e, here, refused) = record { event = e; here = here; before = before; refused = refused }

  by_fault : (fault : WorldFault) → fault ≢ OutOfMemory → (run_before start p at).accepted ≡ take at p.events → RunRefuses start p.shape p.events at fault → IsFirstRefused start p at fault
  by_fault Failed other before refuses = first Failed before refuses
  by_fault TooManyEvents other before refuses = first TooManyEvents before refuses
  by_fault NoProcess other before refuses = first NoProcess before refuses
  by_fault Busy other before refuses = first Busy before refuses
  by_fault NoRegister other before refuses = first NoRegister before refuses
  by_fault TooManyOperations other before refuses = first TooManyOperations before refuses
  by_fault NoFrame other before refuses = first NoFrame before refuses
  by_fault OutOfMemory other before refuses = absurd (other refl)

  -- want of memory aside, a run names the first one
  pub first_refused : (shape : Extent) (events : List Event) (fault : WorldFault) → shape ≡ p.shape → events ≡ p.events
      → fault ≢ OutOfMemory → RunRefuses start shape events at fault
      → (run_in start (after_events start shape (take at events))).accepted ≡ take at events → IsFirstRefused start p at fault
  first_refused shape events fault same_shape same_events other refuses before =
      by_fault fault other (rw (← same_shape, ← same_events) before) (rw (← same_shape, ← same_events) refuses)

-- what is said of a run that ends early where memory was not refused
abbrev pub Refused : (Op → ℕ → Start) → Extent → List Event → ℕ → WorldFault → Type 0
Refused start shape events at fault = (fault ≢ OutOfMemory → RunRefuses start shape events at fault) × (fault ≢ OutOfMemory → (run_in start (after_events start shape (take at events))).accepted ≡ take at events)

-- a fault of a run of a plan's events says of the plan what it says of them
pub blames_run : (start : Op → ℕ → Start) (p : Plan) (shape : Extent) (events : List Event) (run : RunFault)
    → shape ≡ p.shape → events ≡ p.events → Refused start shape events run.at run.fault
    → BlamesRun start p (fault_of_run run)
blames_run start p shape events run same_shape same_events refused = by run.fault refused
  where
    by : (fault : WorldFault) → Refused start shape events run.at fault → BlamesRun start p (fault_at run.at fault)
    by Failed (r, b) = first_refused start p run.at shape events Failed same_shape same_events (λ e. absurd (cc)) (r (λ e. absurd (cc))) (b (λ e. absurd (cc)))
    by TooManyEvents (r, b) = first_refused start p run.at shape events TooManyEvents same_shape same_events (λ e. absurd (cc)) (r (λ e. absurd (cc))) (b (λ e. absurd (cc)))
    by NoProcess (r, b) = first_refused start p run.at shape events NoProcess same_shape same_events (λ e. absurd (cc)) (r (λ e. absurd (cc))) (b (λ e. absurd (cc)))
    by Busy (r, b) = first_refused start p run.at shape events Busy same_shape same_events (λ e. absurd (cc)) (r (λ e. absurd (cc))) (b (λ e. absurd (cc)))
    by NoRegister (r, b) = first_refused start p run.at shape events NoRegister same_shape same_events (λ e. absurd (cc)) (r (λ e. absurd (cc))) (b (λ e. absurd (cc)))
    by TooManyOperations (r, b) = first_refused start p run.at shape events TooManyOperations same_shape same_events (λ e. absurd (cc)) (r (λ e. absurd (cc))) (b (λ e. absurd (cc)))
    by NoFrame (r, b) = first_refused start p run.at shape events NoFrame same_shape same_events (λ e. absurd (cc)) (r (λ e. absurd (cc))) (b (λ e. absurd (cc)))
    by OutOfMemory refused = tt
