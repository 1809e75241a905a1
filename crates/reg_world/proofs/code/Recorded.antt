-- What an event adds to a history.
use Rattle.std.proofs.Common.{◌≡◌, ℕ, Bool, true, false, List, [], ◌∷◌, ◌++◌, length, Option, Some, None, refl, sym}
use Rattle.std.proofs.Common.{subst}
use Rattle.std.specs.Prelude.{◌-◌, cond, slice_get}
use Rattle.std.proofs.lemmas.List.{append-nil, take_at}
use Rattle.std.proofs.lemmas.Option.{same_Some, none-some}
use Rattle.reg_frames.specs.declared.bodies.Frame.{Frame}
use Rattle.reg_process.specs.declared.steps.Reply.{Reply}
use Rattle.reg_process.specs.declared.steps.Step.{Step}
use Rattle.reg_process.specs.declared.steps.Step.TheVariants.{Call as CallStep, Take as TakeStep, Tick as TickStep}
use Rattle.reg_checkers.specs.declared.entries.Entry.{Entry}
use Rattle.reg_checkers.specs.declared.entries.Entry.TheVariants.{Called, Answered}
use Rattle.reg_checkers.specs.History.{IsInPlace, IsHistory}
use Rattle.reg_process.specs.declared.events.Event.{Event}
use Rattle.reg_process.specs.declared.events.Event.TheVariants.{Call, Take, Tick}
use Rattle.reg_world.specs.Histories.{AddsAnswer, Grows}
use Rattle.reg_world.specs.Nodes.{Nodes, step_of, take_step}
use Rattle.reg_world.specs.Pages.{calls_after, entries_after}
use Rattle.reg_world.specs.Tallies.{Tally}
use Rattle.reg_world.specs.World.{op_id, answers_in}
use Rattle.reg_world.proofs.lists.Bodies.{place_last}
use Rattle.reg_world.proofs.code.Entering.{history_front}

-- the last entry was in place after those before it
last_in_place : (n registers : ℕ) (es : List Entry) (x : Entry) → IsHistory n registers (es ++ x ∷ [])
    → IsInPlace n registers es x
last_in_place n registers es x good =
    subst (λ (l : List Entry). IsInPlace n registers l x) (take_at es (x ∷ []) (length es) refl) (good (length es) x (place_last es x))

-- the step is that of the event, by this process
abbrev pub IsStepOf : Event → ℕ × Step → Type 0
IsStepOf (Call q op) m = m ≡ (q, CallStep op)
IsStepOf (Take from to number) m = (frame : Frame) × (m ≡ (to, TakeStep from frame))
IsStepOf (Tick q) m = m ≡ (q, TickStep)

some_if : {A : Type 0} (b : Bool) (x y : A) → cond b (Some x) None ≡ Some y → y ≡ x
some_if true x y h = sym (same_Some x y h)
some_if false x y h = absurd (none-some y h)

taken : (from to : ℕ) (o : Option Frame) (m : ℕ × Step) → take_step from to o ≡ Some m
    → (frame : Frame) × (m ≡ (to, TakeStep from frame))
taken from to None m h = absurd (none-some m h)
taken from to (Some frame) m h = (frame, sym (same_Some (to, TakeStep from frame) m h))

some_taken : (b : Bool) (from to : ℕ) (o : Option Frame) (m : ℕ × Step) → cond b (take_step from to o) None ≡ Some m
    → (frame : Frame) × (m ≡ (to, TakeStep from frame))
some_taken true from to o m h = taken from to o m h
some_taken false from to o m h = absurd (none-some m h)

pub step_is : (n registers : ℕ) (w : Nodes) (e : Event) (m : ℕ × Step) → step_of n registers w e ≡ Some m → IsStepOf e m
step_is n registers w (Call q op) m h = some_if _ (q, CallStep op) m h
step_is n registers w (Take from to number) m h = some_taken _ from to (slice_get ((w from).wire to) number) m h
step_is n registers w (Tick q) m h = some_if _ (q, TickStep) m h

adds_answer : (n registers at p number : ℕ) (es : List Entry) (answer : Option Reply)
    → IsHistory n registers (es ++ answers_in at (op_id p number) answer)
    → AddsAnswer at es p answer (es ++ answers_in at (op_id p number) answer)
adds_answer n registers at p number es None good = append-nil es
adds_answer n registers at p number es (Some reply) good =
    let x = last_in_place n registers es (Answered at (op_id p number) reply.answer) good in
    (op_id p number, refl, ((x.called_at, x.op, x.called), x.running), refl)

module _ (n registers at : ℕ) (es : List Entry) (t : Tally) (answer : Option Reply) where
  grows_by : (e : Event) (m : ℕ × Step) → IsStepOf e m → IsHistory n registers (entries_after es at m.0 t m.1 answer) → Grows at es e answer (entries_after es at m.0 t m.1 answer)
  grows_by (Call q op) m is good = subst (λ (z : ℕ × Step). IsHistory n registers (entries_after es at z.0 t z.1 answer) → Grows at es (Call q op) answer (entries_after es at z.0 t z.1 answer)) (sym is)
      (λ here.
      let mid = es ++ Called at (op_id q t.calls) op ∷ [] in
      let x = last_in_place n registers es (Called at (op_id q t.calls) op) (history_front n registers mid (answers_in at (op_id q (calls_after (CallStep op) t.calls - 1)) answer) here) in
      (mid, (op_id q t.calls, refl, x.next, refl), adds_answer n registers at q (calls_after (CallStep op) t.calls - 1) mid answer here)) good
  grows_by (Take from to number) m is good = subst (λ (z : ℕ × Step). IsHistory n registers (entries_after es at z.0 t z.1 answer) → Grows at es (Take from to number) answer (entries_after es at z.0 t z.1 answer)) (sym is.1)
      (λ here. (es ++ [], append-nil es, adds_answer n registers at to (t.calls - 1) (es ++ []) answer here)) good
  grows_by (Tick q) m is good = subst (λ (z : ℕ × Step). IsHistory n registers (entries_after es at z.0 t z.1 answer) → Grows at es (Tick q) answer (entries_after es at z.0 t z.1 answer)) (sym is)
      (λ here. (es ++ [], append-nil es, adds_answer n registers at q (t.calls - 1) (es ++ []) answer here)) good

  pub grows : (w : Nodes) (e : Event) (m : ℕ × Step) → step_of n registers w e ≡ Some m
      → IsHistory n registers (entries_after es at m.0 t m.1 answer)
      → Grows at es e answer (entries_after es at m.0 t m.1 answer)
  grows w e m found good = grows_by e m (step_is n registers w e m found) good
