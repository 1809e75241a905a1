-- What an accepted event does to the world.
use Rattle.std.proofs.Common.{◌≡◌, ℕ, ◌<◌, ◌≤◌, Bool, true, false, [], ◌∷◌, ◌++◌, length, Option, Some, None, refl, sym}
use Rattle.std.proofs.Common.{ap, ◌∙◌, subst, arith, length-append}
use Rattle.std.specs.Prelude.{cond, ◌==◌, ◌&&◌, not, nat_lt, slice_get}
use Rattle.std.proofs.lemmas.Bool.{lt-ltb, ne_eqb, cond-true}
use Rattle.reg_base.specs.declared.limits.TheConstants.{MOST_EVENTS}
use Rattle.reg_base.specs.declared.memory.Op.{Op}
use Rattle.reg_frames.specs.declared.bodies.Frame.{Frame}
use Rattle.reg_front.specs.declared.starts.Start.{Start}
use Rattle.reg_process.specs.declared.steps.Step.{Step}
use Rattle.reg_process.specs.declared.steps.Step.TheVariants.{Take as TakeStep, Tick as TickStep}
use Rattle.reg_process.specs.Process.{step}
use Rattle.reg_process.specs.declared.events.Event.{Event}
use Rattle.reg_process.specs.declared.events.Event.TheVariants.{Take, Tick}
use Rattle.reg_world.specs.declared.faults.WorldFault.{WorldFault}
use Rattle.reg_world.specs.declared.faults.WorldFault.TheVariants.{Failed, TooManyEvents}
use Rattle.reg_world.specs.Nodes.{Node, Nodes, put, after_step, step_of, take_step}
use Rattle.reg_world.specs.World.{World, move_of, moved, whole, event_fault}
use Rattle.reg_world.specs.Worlds.{Made, Accepts, run_in}
use Rattle.reg_world.proofs.one_order.Acts.{put_cases}
use Rattle.reg_world.proofs.run.Along.{one_more}
use Rattle.reg_records.specs.Rest.{put_for}
use Rattle.reg_records.specs.RestParts.{nodes_in, IsGoingOn, Moves}

-- the event was this step
pub record Stepped (start : Op → ℕ → Start) (old : Made) (e : Event) (m : ℕ × Step) (new : Made) : Type 0 where
  pub nodes : nodes_in start new ≡ put (nodes_in start old) m.0 (after_step start (nodes_in start old m.0) m.1)
  pub moves : Moves start old new
  pub accepted : new.accepted ≡ old.accepted ++ e ∷ []

has_room : (failed few : Bool) (o : Option WorldFault)
    → cond failed (Some Failed) (cond few o (Some TooManyEvents)) ≡ None → few ≡ true
has_room true few o h = absurd (cc)
has_room false true o h = refl
has_room false false o h = absurd (cc)

-- no frame leaves its wire
wires_grow : (start : Op → ℕ → Start) (w : Nodes) (m : ℕ × Step) (a b : ℕ)
    → put_for w a b ≤ put_for (put w m.0 (after_step start (w m.0) m.1)) a b
wires_grow start w m a b =
    put_cases (λ (z : Node). put_for w a b ≤ length (z.wire b)) w m.0 (after_step start (w m.0) m.1) a
    (λ e.
    let x = length-append ((w m.0).wire b) ((step start (w m.0).state m.1).1.frames b) in
    let y = ap (λ z. put_for w z b) e in
    omega (arith, x, y))
    (λ _. omega arith)

pub stepped : (start : Op → ℕ → Start) (old new : Made) (e : Event) (m : ℕ × Step) → IsGoingOn start old
    → Accepts start old e new → step_of old.processes old.registers (nodes_in start old) e ≡ Some m
    → Stepped start old e m new
stepped start old new e m G A is =
    let w = run_in start old in
    let n = old.processes in
    let few = nat_lt (length w.accepted) MOST_EVENTS in
    let room : few ≡ true = has_room old.failed few (event_fault n old.registers w.nodes e) A.no_fault in
    let move : move_of n old.registers w e ≡ Some m = cond-true few (step_of n old.registers w.nodes e) None room ∙ is in
    let after : whole start n old.registers (old.accepted ++ e ∷ []) ≡ moved start w e (Some m) = one_more start n old.registers old.accepted e ∙ ap (moved start w e) move in
    subst (λ (z : Made). Stepped start old e m z) (sym A.after) (record {
      nodes = ap (λ (z : World). z.nodes) after;
      moves = record {
        on = record { going = G.going; accepted = ap (λ (z : World). z.accepted) after ∙ ap (λ es. es ++ e ∷ []) G.accepted; history = refl };
        processes = refl;
        registers = refl;
        more = e ∷ [];
        accepted = refl;
        grows = λ a b. let x = wires_grow start w.nodes m a b in let y = ap (λ (z : World). put_for z.nodes a b) after in omega (arith, x, y);
      };
      accepted = refl;
    })

-- a tick of a process that there is, and a take of a frame that there is
pub ticks : (n registers : ℕ) (w : Nodes) (p : ℕ) → p < n → step_of n registers w (Tick p) ≡ Some (p, TickStep)
ticks n registers w p l = cond-true (nat_lt p n) (Some (p, TickStep)) None (lt-ltb p n l)

take_tests : (a b c : Bool) (o : Option (ℕ × Step)) → a ≡ true → b ≡ true → c ≡ false
    → cond (a && (b && not c)) o None ≡ o
take_tests a b c o e f g = rw (e, f, g) refl

pub takes : (n registers : ℕ) (w : Nodes) (a p number : ℕ) (f : Frame) → a < n → p < n → (a ≡ p → ⊥)
    → slice_get ((w a).wire p) number ≡ Some f → step_of n registers w (Take a p number) ≡ Some (p, TakeStep a f)
takes n registers w a p number f la lp ne at =
    take_tests (nat_lt a n) (nat_lt p n) (a == p) (take_step a p (slice_get ((w a).wire p) number)) (lt-ltb a n la) (lt-ltb p n lp) (ne_eqb a p ne)
    ∙ ap (take_step a p) at
