-- The events that a world accepted: each call names a register that there is.
use Rattle.std.proofs.Common.{ℕ, zero, suc, ◌≡◌, ◌<◌, Bool, List, [], ◌∷◌, ◌++◌, length, Option, None, Some, refl, sym}
use Rattle.std.proofs.Common.{ap, ◌∙◌, subst, arith}
use Rattle.std.specs.Prelude.{slice_get, nat_lt, not, ◌&&◌}
use Rattle.std.proofs.lemmas.Bool.{cond_both, ltb-true, and_parts}
use Rattle.std.proofs.lemmas.Option.{same_Some}
use Rattle.reg_base.specs.declared.limits.TheConstants.{MOST_OPERATIONS}
use Rattle.reg_process.specs.declared.steps.Step.TheVariants.{Call as CallStep}
use Rattle.reg_world.specs.Nodes.{Nodes, step_of}
use Rattle.std.specs.Option.{is_some}
use Rattle.reg_base.specs.declared.memory.Op.{Op}
use Rattle.reg_base.specs.Memory.{register_of}
use Rattle.reg_front.specs.declared.starts.Start.{Start}
use Rattle.reg_process.specs.declared.steps.Step.{Step}
use Rattle.reg_inputs.specs.Loads.{Load, IsLoad}
use Rattle.reg_process.specs.declared.events.Event.{Event}
use Rattle.reg_process.specs.declared.events.Event.TheVariants.{Call, Take, Tick}
use Rattle.reg_world.specs.World.{World, empty_world, move_of, happens, run}
use Rattle.reg_world.specs.Worlds.{Made, run_in}
use Rattle.reg_inputs.specs.Schedules.{EventFits, IsPlan, Plan}
use Rattle.reg_commands.specs.Plays.{IsPlayBy, plan_of}
use Rattle.reg_base.specs.Shape.{Extent}
use Rattle.reg_front.specs.declared.named.Front.{Front}
use Rattle.reg_world.proofs.code.Ahead.{same_extent}
use Rattle.reg_inputs.specs.ScheduleText.{IsScheduleText, schedule_text}
use Rattle.reg_show.specs.Schedules.{ShowsSchedule}
use Rattle.reg_show.specs.ToldRuns.{EventHasBits}
use Rattle.reg_trace.proofs.Moving.{first_moved}
use Rattle.reg_inputs.proofs.ReadBack.{schedule_spelled}
use Rattle.reg_world.proofs.run.Along.{few_events, move_is}
use Rattle.reg_text.proofs.Spelling.{op_fits}

call_known : (n registers : ℕ) (w : Nodes) (p : ℕ) (op : Op) (m : ℕ × Step) → step_of n registers w (Call p op) ≡ Some m
    → register_of op < registers
call_known n registers w p op m =
    cond_both (nat_lt p n && (not (is_some (w p).state.running) && (nat_lt (register_of op) registers && nat_lt (w p).state.calls MOST_OPERATIONS))) (Some (p, CallStep op)) None (λ (o : Option (ℕ × Step)). o ≡ Some m → register_of op < registers)
    (λ e _.
    let a = and_parts _ _ e in
    let b = and_parts _ _ a.1 in
    let c = and_parts _ _ b.1 in
    ltb-true (register_of op) registers c.0)
    (λ e h. absurd (cc))

-- a call names a register that there is
abbrev pub IsKnown : ℕ → Event → Type 0
IsKnown registers (Call p op) = register_of op < registers
IsKnown registers (Take from to i) = Unit {0}
IsKnown registers (Tick p) = Unit {0}

moved_known : (n registers : ℕ) (w : World) (e : Event) (m : ℕ × Step) → move_of n registers w e ≡ Some m
    → IsKnown registers e
moved_known n registers w (Call p op) m is =
    call_known n registers w.nodes p op m (move_is n registers w (Call p op) m is).1
moved_known n registers w (Take from to i) m is = tt
moved_known n registers w (Tick p) m is = tt

abbrev pub AllKnown : ℕ → List Event → Type 0
AllKnown registers es = (k : ℕ) (e : Event) → slice_get es k ≡ Some e → IsKnown registers e

pub all_known : (start : Op → ℕ → Start) (n registers : ℕ) (es : List Event) (w : World)
    → (run start n registers es w).accepted ≡ w.accepted ++ es → (k : ℕ) (e : Event) → slice_get es k ≡ Some e
    → IsKnown registers e
all_known start n registers [] w all k e h = absurd (cc)
all_known start n registers (x ∷ es) w all zero e h =
    let first = first_moved start n registers x es w (move_of n registers w x) refl all in
    subst (IsKnown registers) (same_Some x e h) (moved_known n registers w x first.0 first.1)
all_known start n registers (x ∷ es) w all (suc k) e h = all_known start n registers es (happens start n registers w x) (first_moved start n registers x es w (move_of n registers w x) refl all).2 k e h

pub event_fits : (names : List (List ℕ)) (registers : ℕ) (e : Event) → registers ≡ length names → IsKnown registers e
    → EventHasBits e → EventFits names e
event_fits names registers (Call p op) same known bits = (bits.0, op_fits names op (omega (arith, known, same)) bits.1)
event_fits names registers (Take from to i) same known bits = bits
event_fits names registers (Tick p) same known bits = bits

-- what a run of a workload's processes accepted is a plan under its front end and names
pub good_plan : (start : Op → ℕ → Start) (work : Load) (made : Made) → IsLoad work
    → made.processes ≡ length work.scripts → made.registers ≡ length work.names
    → (run_in start made).accepted ≡ made.accepted
    → ((k : ℕ) (e : Event) → slice_get made.accepted k ≡ Some e → EventHasBits e) → IsPlan (plan_of work made)
good_plan start work made load processes registers all bits =
    let known : AllKnown made.registers made.accepted = all_known start made.processes made.registers made.accepted (empty_world made.processes made.registers) all in
    record {
      names = load.names;
      some_process = (let l = load.some_process in omega (arith, l, processes));
      processes = (let l = load.few_processes in omega (arith, l, processes));
      registers = registers;
      events = λ k e h. event_fits work.names made.registers e registers (known k e h) (bits k e h);
      few = (let a = few_events start made.processes made.registers made.accepted in let b = ap length all in omega (arith, a, b));
    }

pub made_schedule : (start : Op → ℕ → Start) (work : Load) (made : Made) → IsLoad work
    → made.processes ≡ length work.scripts → made.registers ≡ length work.names
    → (run_in start made).accepted ≡ made.accepted
    → ((k : ℕ) (e : Event) → slice_get made.accepted k ≡ Some e → EventHasBits e) → IsScheduleText (plan_of work made)
made_schedule start work made load processes registers all bits =
    schedule_spelled (plan_of work made) (good_plan start work made load processes registers all bits)

-- the plan that was written is that of the run
pub made_plan : (work : Load) (made : Made) (shape : Extent) (names : List (List ℕ)) (front : Front)
    (events : List Event)
    → shape ≡ work.shape → names ≡ work.names → front ≡ work.front → events ≡ made.accepted
    → made.processes ≡ work.shape.processes → made.registers ≡ work.shape.registers → record { shape = shape; names = names; front = front; events = events } ≡ plan_of work made
made_plan work made shape names front events same_shape same_names same_front same_events processes registers =
    let extent : shape ≡ record { processes = made.processes; registers = made.registers } = same_shape ∙ same_extent work.shape (record { processes = made.processes; registers = made.registers }) (sym processes) (sym registers) in
    λ i. record { shape = extent i; names = same_names i; front = same_front i; events = same_events i }

-- the schedule that was written is that of the play
pub shows_schedule : (fair : Bool) (start : Op → ℕ → Start) (work : Load) (made : Made) (is_finished : Bool)
    (Wrote : List ℕ → Type 0) (shape : Extent) (names : List (List ℕ)) (front : Front) (events : List Event)
    → shape ≡ work.shape → names ≡ work.names → front ≡ work.front → events ≡ made.accepted → IsLoad work → IsPlayBy fair start work made is_finished → (run_in start made).accepted ≡ made.accepted
    → ((k : ℕ) (e : Event) → slice_get events k ≡ Some e → EventHasBits e)
    → Wrote (schedule_text (record { shape = shape; names = names; front = front; events = events })) → ShowsSchedule fair start Wrote work
shows_schedule fair start work made is_finished Wrote shape names front events same_shape same_names same_front same_events load played all bits written =
    let play = played.play in
    let same = made_plan work made shape names front events same_shape same_names same_front same_events play.processes play.registers in
    record {
      made = made;
      is_finished = is_finished;
      played = played;
      schedule = made_schedule start work made load (play.processes ∙ load.processes) (play.registers ∙ load.registers) all (λ k e h. bits k e (ap (λ (l : List Event). slice_get l k) same_events ∙ h));
      written = (let P : Plan → Type 0 = λ p. Wrote (schedule_text p) in subst P same written);
    }
