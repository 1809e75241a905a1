-- What is told of a run is told of the schedule's run.
use Rattle.std.proofs.Common.{ℕ, ◌≡◌, ◌∙◌, List, ap, ap₂, sym}
use Rattle.reg_base.specs.Shape.{Extent}
use Rattle.reg_base.specs.declared.memory.Op.{Op}
use Rattle.reg_front.specs.declared.starts.Start.{Start}
use Rattle.reg_checkers.specs.declared.entries.Entry.{Entry}
use Rattle.reg_process.specs.declared.events.Event.{Event}
use Rattle.reg_inputs.specs.Schedules.{Plan}
use Rattle.reg_trace.specs.Moments.{Fact, moments_of}
use Rattle.reg_world.specs.Worlds.{Made, after_events, run_in}
use Rattle.reg_show.specs.ToldRuns.{IsTold}

pub told_run : (start : Op → ℕ → Start) (p : Plan) (shape : Extent) (events : List Event) (names : List (List ℕ))
    (facts : List Fact) (w : Made) (entries : List Entry)
    → shape ≡ p.shape → events ≡ p.events → names ≡ p.names → w ≡ after_events start shape events → (run_in start (after_events start shape events)).accepted ≡ events
    → facts ≡ moments_of start shape events → entries ≡ (run_in start w).history → IsTold start p names facts entries
told_run start p shape events names facts w entries same_shape same_events named is accepted did told =
    let same : after_events start shape events ≡ after_events start p.shape p.events = ap₂ (after_events start) same_shape same_events in
    record {
      accepted = sym (ap (λ (m : Made). (run_in start m).accepted) same) ∙ (accepted ∙ same_events);
      named = named;
      did = did ∙ ap₂ (moments_of start) same_shape same_events;
      history = told ∙ ap (λ (m : Made). (run_in start m).history) (is ∙ same);
    }
