-- The schedule of a run with an outcome, and why there is none.
use Rattle.std.proofs.Common.{ℕ, ◌≡◌, ◌⊎◌, inl, inr, List, length, Some, refl, sym, ap, ◌∙◌, subst}
use Rattle.std.specs.Prelude.{slice_get}
use Rattle.reg_base.specs.declared.memory.Op.{Op}
use Rattle.reg_base.specs.Shape.{Extent}
use Rattle.reg_front.specs.declared.named.Front.{Front}
use Rattle.reg_front.specs.declared.starts.Start.{Start}
use Rattle.reg_process.specs.declared.events.Event.{Event}
use Rattle.reg_world.specs.Worlds.{Made, run_in}
use Rattle.reg_inputs.specs.Loads.{IsLoad, Load}
use Rattle.reg_inputs.specs.Schedules.{Plan}
use Rattle.reg_inputs.specs.ScheduleText.{schedule_text}
use Rattle.reg_commands.specs.declared.faults.Fault.TheVariants.{OutOfMemory, Output}
use Rattle.reg_outcomes.specs.Finishing.{HasRoom}
use Rattle.reg_outcomes.specs.Interleavings.{Interleaving, IsWider}
use Rattle.reg_outcomes.specs.Showing.{IsRunOf}
use Rattle.reg_outcomes.specs.declared.interleavings.outcomes.TheConstants.{MOST_STAGES}
use Rattle.reg_show.specs.OneOutcome.{Lacks, SendsRun, StopsOutcome}
use Rattle.reg_show.specs.declared.faults.ShowFault.{ShowFault}
use Rattle.reg_show.specs.declared.faults.ShowFault.TheVariants.{Command, NoSuchOutcome, TooManyEvents, TooManyStages}
use Rattle.reg_show.specs.declared.faults.ShowFault.TheVariants.{TooManyToDraw, TooManyToRest, TooManyToShorten}
use Rattle.reg_show.specs.ToldRuns.{EventHasBits}
use Rattle.reg_show.proofs.Accepted.{made_plan, made_schedule}

-- the schedule that was written is that of the run
pub sends_run : (start : Op → ℕ → Start) (work : Load) (outcome : Interleaving) (made : Made) (Wrote : List ℕ → Type 0)
    (shape : Extent) (names : List (List ℕ)) (front : Front) (events : List Event)
    → shape ≡ work.shape → names ≡ work.names → front ≡ work.front → events ≡ made.accepted → IsLoad work → IsRunOf start work.scripts work.shape.registers outcome made → (run_in start made).accepted ≡ made.accepted
    → ((k : ℕ) (e : Event) → slice_get events k ≡ Some e → EventHasBits e)
    → Wrote (schedule_text (record { shape = shape; names = names; front = front; events = events })) → SendsRun start Wrote work outcome
sends_run start work outcome made Wrote shape names front events same_shape same_names same_front same_events load run all bits written =
    let processes : made.processes ≡ length work.scripts = ap Made.processes run.made in
    let registers : made.registers ≡ work.shape.registers = ap Made.registers run.made in
    let same = made_plan work made shape names front events same_shape same_names same_front same_events (processes ∙ sym load.processes) registers in
    record {
      made = made;
      run = run;
      schedule = made_schedule start work made load processes (registers ∙ load.registers) all (λ k e h. bits k e (ap (λ (l : List Event). slice_get l k) same_events ∙ h));
      written = (let P : Plan → Type 0 = λ p. Wrote (schedule_text p) in subst P same written);
    }

-- why no run is made, or no schedule written
pub stops_run : (number : ℕ) (work : Load) (f : ShowFault) → (f ≡ Command Output) ⊎ Lacks (HasRoom work.scripts) f
    → StopsOutcome number work f
stops_run number work f (inl failed) = subst (StopsOutcome number work) (sym failed) (inl refl)
stops_run number work (Command fault) (inr none) = inr none
stops_run number work TooManyEvents (inr none) = none
stops_run number work TooManyToDraw (inr none) = absurd none
stops_run number work TooManyToRest (inr none) = absurd none
stops_run number work TooManyToShorten (inr none) = absurd none
stops_run number work TooManyStages (inr none) = absurd none
stops_run number work NoSuchOutcome (inr none) = absurd none

-- why not all outcomes are found
pub stops_search : (number : ℕ) (work : Load) (f : ShowFault)
    → (f ≡ Command OutOfMemory) ⊎ ((f ≡ TooManyStages) × IsWider work.scripts work.shape.registers MOST_STAGES)
    → StopsOutcome number work f
stops_search number work f (inl refused) = subst (StopsOutcome number work) (sym refused) (inr refl)
stops_search number work f (inr wide) = subst (StopsOutcome number work) (sym wide.0) wide.1
