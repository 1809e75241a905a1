-- The schedule of a run that was brought to rest.
use Rattle.std.proofs.Common.{ℕ, ◌≡◌, List, length, Some, ap, ◌∙◌, subst, arith}
use Rattle.std.specs.Prelude.{slice_get}
use Rattle.reg_base.specs.declared.memory.Op.{Op}
use Rattle.reg_base.specs.Shape.{Extent}
use Rattle.reg_front.specs.declared.named.Front.{Front}
use Rattle.reg_front.specs.declared.starts.Start.{Start}
use Rattle.reg_process.specs.declared.events.Event.{Event}
use Rattle.reg_world.specs.World.{empty_world}
use Rattle.reg_world.specs.Worlds.{Made, run_in}
use Rattle.reg_world.proofs.run.Along.{few_events}
use Rattle.reg_inputs.specs.Schedules.{Plan, IsPlan}
use Rattle.reg_commands.specs.Replays.{plan_in}
use Rattle.reg_inputs.specs.ScheduleText.{IsScheduleText, schedule_text}
use Rattle.reg_inputs.proofs.ReadBack.{schedule_spelled}
use Rattle.reg_show.specs.ToldRuns.{EventHasBits}
use Rattle.reg_show.specs.Rests.{IsRested, WritesRest}
use Rattle.reg_show.proofs.Accepted.{AllKnown, all_known, event_fits}

-- what a run at rest accepted is a schedule under the plan's front end and names
rest_schedule : (start : Op → ℕ → Start) (p : Plan) (made : Made) → IsPlan p → IsRested start p made
    → (run_in start made).accepted ≡ made.accepted
    → ((k : ℕ) (e : Event) → slice_get made.accepted k ≡ Some e → EventHasBits e)
    → IsScheduleText (plan_in p.front p.names made)
rest_schedule start p made good rested all bits =
    let after = rested.settled.goes.after in
    let processes : made.processes ≡ p.shape.processes = ap Made.processes after in
    let registers : made.registers ≡ length p.names = ap Made.registers after ∙ good.registers in
    let known : AllKnown made.registers made.accepted = all_known start made.processes made.registers made.accepted (empty_world made.processes made.registers) all in
    schedule_spelled (plan_in p.front p.names made) (record {
      names = good.names;
      some_process = (let l = good.some_process in omega (arith, l, processes));
      processes = (let l = good.processes in omega (arith, l, processes));
      registers = registers;
      events = λ k e h. event_fits p.names made.registers e registers (known k e h) (bits k e h);
      few = (let a = few_events start made.processes made.registers made.accepted in let b = ap length all in omega (arith, a, b));
    })

-- the schedule that was written is that of the run at rest
pub writes_rest : (start : Op → ℕ → Start) (Wrote : List ℕ → Type 0) (p : Plan) (made : Made) (shape : Extent)
    (names : List (List ℕ)) (front : Front) (events : List Event)
    → IsPlan p → IsRested start p made → shape ≡ record { processes = made.processes; registers = made.registers } → names ≡ p.names → front ≡ p.front → events ≡ made.accepted → (run_in start made).accepted ≡ made.accepted
    → ((k : ℕ) (e : Event) → slice_get events k ≡ Some e → EventHasBits e)
    → Wrote (schedule_text (record { shape = shape; names = names; front = front; events = events })) → WritesRest start Wrote p
writes_rest start Wrote p made shape names front events good rested same_shape same_names same_front same_events all bits written =
    let same : record { shape = shape; names = names; front = front; events = events } ≡ plan_in p.front p.names made = λ i. record { shape = same_shape i; names = same_names i; front = same_front i; events = same_events i } in
    record {
      made = made;
      rested = rested;
      schedule = rest_schedule start p made good rested all (λ k e h. bits k e (ap (λ (l : List Event). slice_get l k) same_events ∙ h));
      written = (let P : Plan → Type 0 = λ q. Wrote (schedule_text q) in subst P same written);
    }
