-- The events in which a process makes one step.
use Rattle.std.proofs.Common.{◌≡◌, ℕ, Bool, true, false, not, length, Option, Some, None, refl, ap, sym, ◌∙◌, subst}
use Rattle.std.specs.Prelude.{cond, ◌==◌, ◌&&◌, nat_lt, slice_get}
use Rattle.std.specs.Option.{is_some}
use Rattle.std.proofs.lemmas.Option.{same_Some}
use Rattle.reg_base.specs.declared.limits.TheConstants.{MOST_EVENTS, MOST_OPERATIONS}
use Rattle.reg_base.specs.declared.memory.Op.{Op}
use Rattle.reg_base.specs.Memory.{register_of}
use Rattle.reg_frames.specs.declared.bodies.Frame.{Frame}
use Rattle.reg_front.specs.declared.starts.Start.{Start}
use Rattle.reg_process.specs.declared.steps.Step.{Step}
use Rattle.reg_process.specs.declared.steps.Step.TheVariants.{Call, Take, Tick}
use Rattle.reg_process.specs.declared.events.Event.{Event}
use Rattle.reg_process.specs.declared.events.Event.TheVariants.{Call as CallOf, Take as TakeOf, Tick as TickOf}
use Rattle.reg_world.specs.declared.faults.WorldFault.{WorldFault}
use Rattle.reg_world.specs.declared.faults.WorldFault.TheVariants.{Failed}
use Rattle.reg_world.specs.Nodes.{Nodes, step_of, take_step}
use Rattle.reg_world.specs.World.{move_of, world_fault}
use Rattle.reg_world.specs.Worlds.{Made, run_in, reply_in, reply_of_move, refusal}
use Rattle.reg_world.proofs.one_memory.Refusals.{refused_by_fault}
use Rattle.reg_records.specs.Playing.{IsEventOf, Moves}

-- a test that holds where something came of it
pub if_some : {X : Type 0} (b : Bool) (o : Option X) (x : X) → cond b o None ≡ Some x → (b ≡ true) × (o ≡ Some x)
if_some true o x h = (refl, h)
if_some false o x h = absurd cc

if_is : {X : Type 0} (b : Bool) (x : X) (y : X) → cond b (Some x) None ≡ Some y → x ≡ y
if_is b x y h = same_Some x y (if_some b (Some x) y h).1

if_any : {X : Type 0} (b : Bool) (x : X) → is_some (cond b (Some x) None) ≡ true → cond b (Some x) None ≡ Some x
if_any true x h = refl
if_any false x h = absurd cc

-- what a take that happens is
take_is : (from to p : ℕ) (step : Step) (o : Option Frame) → take_step from to o ≡ Some (p, step)
    → (f : Frame) × (o ≡ Some f) × (to ≡ p) × (Take from f ≡ step)
take_is from to p step None h = absurd cc
take_is from to p step (Some f) h =
    let e : (to, Take from f) ≡ (p, step) = same_Some (to, Take from f) (p, step) h in
    (f, refl, ap (λ (x : ℕ × Step). x.0) e, ap (λ (x : ℕ × Step). x.1) e)

-- the event of an accepted step is one of that step
pub event_moves : (n registers : ℕ) (w : Nodes) (p : ℕ) (step : Step) (e : Event)
    → step_of n registers w e ≡ Some (p, step) → IsEventOf w p step e
event_moves n registers w p step (CallOf q op) h =
    let same : (q, Call op) ≡ (p, step) = if_is (nat_lt q n && (not (is_some (w q).state.running) && (nat_lt (register_of op) registers && nat_lt (w q).state.calls MOST_OPERATIONS))) (q, Call op) (p, step) h in
    let process : q ≡ p = ap (λ (x : ℕ × Step). x.0) same in
    let made : Call op ≡ step = ap (λ (x : ℕ × Step). x.1) same in
    subst (λ (s : Step). IsEventOf w p s (CallOf q op)) made (ap (λ (r : ℕ). CallOf r op) process)
event_moves n registers w p step (TakeOf from to number) h =
    let t = (if_some (nat_lt from n && (nat_lt to n && not (from == to))) (take_step from to (slice_get ((w from).wire to) number)) (p, step) h).1 in
    let r = take_is from to p step (slice_get ((w from).wire to) number) t in
    subst (λ (s : Step). IsEventOf w p s (TakeOf from to number)) r.3
    (number, ap (λ (x : ℕ). TakeOf from x number) r.2, subst (λ (x : ℕ). slice_get ((w from).wire x) number ≡ Some r.0) r.2 r.1)
event_moves n registers w p step (TickOf q) h =
    let same : (q, Tick) ≡ (p, step) = if_is (nat_lt q n) (q, Tick) (p, step) h in
    let process : q ≡ p = ap (λ (x : ℕ × Step). x.0) same in
    let made : Tick ≡ step = ap (λ (x : ℕ × Step). x.1) same in
    subst (λ (s : Step). IsEventOf w p s (TickOf q)) made (ap (λ (r : ℕ). TickOf r) process)

-- an event of a step that isn't refused is that step
moves_event : (n registers : ℕ) (w : Nodes) (p : ℕ) (step : Step) (e : Event) → IsEventOf w p step e
    → is_some (step_of n registers w e) ≡ true → step_of n registers w e ≡ Some (p, step)
moves_event n registers w p (Call op) e is some = subst (λ (x : Event). is_some (step_of n registers w x) ≡ true → step_of n registers w x ≡ Some (p, Call op)) (sym is)
    (if_any (nat_lt p n && (not (is_some (w p).state.running) && (nat_lt (register_of op) registers && nat_lt (w p).state.calls MOST_OPERATIONS))) (p, Call op)) some
moves_event n registers w p (Take from frame) e (number, is, at) some = subst (λ (x : Event). is_some (step_of n registers w x) ≡ true → step_of n registers w x ≡ Some (p, Take from frame)) (sym is) go some
  where
    b : Bool
    b = nat_lt from n && (nat_lt p n && not (from == p))

    by : (b : Bool) (o : Option Frame) → o ≡ Some frame → is_some (cond b (take_step from p o) None) ≡ true → cond b (take_step from p o) None ≡ Some (p, Take from frame)
    by true o at h = ap (take_step from p) at
    by false o at h = absurd cc

    go : is_some (step_of n registers w (TakeOf from p number)) ≡ true → step_of n registers w (TakeOf from p number) ≡ Some (p, Take from frame)
    go h = by (nat_lt from n && (nat_lt p n && not (from == p))) (slice_get ((w from).wire p) number) at h
moves_event n registers w p Tick e is some =
    subst (λ (x : Event). is_some (step_of n registers w x) ≡ true → step_of n registers w x ≡ Some (p, Tick)) (sym is)
    (if_any (nat_lt p n) (p, Tick)) some

-- whether events of one step are refused doesn't depend on the place of the frame
same_step : (n registers : ℕ) (w : Nodes) (p : ℕ) (step : Step) (e f : Event) → IsEventOf w p step e
    → IsEventOf w p step f → step_of n registers w e ≡ step_of n registers w f
same_step n registers w p (Call op) e f a b = ap (step_of n registers w) (a ∙ sym b)
same_step n registers w p (Take from frame) e f (i, a, x) (j, b, y) =
    ap (step_of n registers w) a ∙ (ap (λ (o : Option Frame). cond (nat_lt from n && (nat_lt p n && not (from == p))) (take_step from p o) None) (x ∙ sym y) ∙ sym (ap (step_of n registers w) b))
same_step n registers w p Tick e f a b = ap (step_of n registers w) (a ∙ sym b)

module _ (start : Op → ℕ → Start) (w : Made) (p : ℕ) (step : Step) where
  pub is_event : (e : Event) → Moves start w p step e → IsEventOf (run_in start w).nodes p step e
  is_event e h = event_moves w.processes w.registers (run_in start w).nodes p step e (if_some (nat_lt (length (run_in start w).accepted) MOST_EVENTS) (step_of w.processes w.registers (run_in start w).nodes e) (p, step) h).1

  pub same_move : (e f : Event) → IsEventOf (run_in start w).nodes p step e → IsEventOf (run_in start w).nodes p step f
      → move_of w.processes w.registers (run_in start w) e ≡ move_of w.processes w.registers (run_in start w) f
  same_move e f a b = ap (λ o. cond (nat_lt (length (run_in start w).accepted) MOST_EVENTS) o None) (same_step w.processes w.registers (run_in start w).nodes p step e f a b)

  -- an event that no fault applies to is accepted
  pub moves : (e : Event) → IsEventOf (run_in start w).nodes p step e → w.failed ≡ false → refusal start w e ≡ None
      → Moves start w p step e
  moves e is going none = by (nat_lt (length (run_in start w).accepted) MOST_EVENTS) some
    where
      fault : world_fault w.processes w.registers (run_in start w) e ≡ None
      fault = subst (λ (b : Bool). cond b (Some Failed) (world_fault w.processes w.registers (run_in start w) e) ≡ None) going none

      some : is_some (move_of w.processes w.registers (run_in start w) e) ≡ true
      some = refused_by_fault w.processes w.registers (run_in start w) e ∙ ap (λ (o : Option WorldFault). not (is_some o)) fault

      by : (b : Bool) → is_some (cond b (step_of w.processes w.registers (run_in start w).nodes e) None) ≡ true → cond b (step_of w.processes w.registers (run_in start w).nodes e) None ≡ Some (p, step)
      by true h = moves_event w.processes w.registers (run_in start w).nodes p step e is h
      by false h = absurd cc

  -- where a fault applies to one event of the step, no event is the step
  pub no_move : (e : Event) (fault : WorldFault) → IsEventOf (run_in start w).nodes p step e → w.failed ≡ false
      → refusal start w e ≡ Some fault → (f : Event) → Moves start w p step f → ⊥
  no_move e fault is going some f moved =
      let here : move_of w.processes w.registers (run_in start w) e ≡ Some (p, step) = same_move e f is (is_event f moved) ∙ moved in
      let applies : world_fault w.processes w.registers (run_in start w) e ≡ Some fault = subst (λ (b : Bool). cond b (Some Failed) (world_fault w.processes w.registers (run_in start w) e) ≡ Some fault) going some in
      let yes1 : is_some (move_of w.processes w.registers (run_in start w) e) ≡ true = ap is_some here in
      let no1 : is_some (move_of w.processes w.registers (run_in start w) e) ≡ false = refused_by_fault w.processes w.registers (run_in start w) e ∙ ap (λ (o : Option WorldFault). not (is_some o)) applies in
      absurd cc

  -- all events of the step give one reply
  pub same_reply : (e f : Event) → Moves start w p step e → Moves start w p step f
      → reply_in start w e ≡ reply_in start w f
  same_reply e f a b = ap (reply_of_move start (run_in start w)) (a ∙ sym b)
