-- That no fault applies to what a player makes.
use Rattle.std.proofs.Common.{◌≡◌, ℕ, ◌+◌, ◌<◌, ◌≤◌, Bool, true, false, not, List, [], ◌∷◌, length, Option, Some, None}
use Rattle.std.proofs.Common.{refl, sym, ap, ◌∙◌, arith, length-append}
use Rattle.std.specs.Prelude.{cond, ◌==◌, ◌&&◌, nat_lt, slice_get, slice_index_or}
use Rattle.std.specs.Option.{is_some}
use Rattle.std.proofs.lemmas.Bool.{cond-true, eq-eqb, cond_both, ltb-true, lt-ltb}
use Rattle.std.proofs.lemmas.Option.{slice_get-get_or}
use Rattle.std.proofs.lemmas.List.{length-take-le}
use Rattle.reg_base.specs.declared.limits.TheConstants.{MOST_EVENTS, MOST_OPERATIONS}
use Rattle.reg_base.specs.declared.memory.Op.{Op}
use Rattle.reg_base.specs.declared.memory.Op.TheVariants.{Read}
use Rattle.reg_base.specs.Memory.{register_of}
use Rattle.reg_frames.specs.declared.bodies.Frame.{Frame}
use Rattle.reg_front.specs.declared.starts.Start.{Start}
use Rattle.reg_process.specs.declared.steps.Step.{Step}
use Rattle.reg_process.specs.declared.steps.Step.TheVariants.{Call as CallStep, Take as TakeStep, Tick as TickStep}
use Rattle.reg_process.specs.declared.events.Event.{Event}
use Rattle.reg_process.specs.declared.events.Event.TheVariants.{Call, Take, Tick}
use Rattle.reg_world.specs.declared.faults.WorldFault.{WorldFault}
use Rattle.reg_world.specs.declared.faults.WorldFault.TheVariants.{Failed, TooManyEvents, NoProcess, Busy, NoRegister}
use Rattle.reg_world.specs.declared.faults.WorldFault.TheVariants.{TooManyOperations, NoFrame}
use Rattle.reg_world.specs.Nodes.{Node, after_step, take_step}
use Rattle.reg_world.specs.Pages.{calls_after}
use Rattle.reg_world.specs.World.{World, empty_world, move_of, moved, happens, run, frame_fault}
use Rattle.reg_world.specs.Worlds.{Made, run_in, refusal}
use Rattle.reg_world.proofs.one_order.Acts.{put_cases}
use Rattle.reg_world.proofs.code.Growing.{calls_are}
use Rattle.reg_workload.specs.Plays.{call_at, calls_of, script_of, Playing, next_at, cursor_at, next_frame, next_op}
use Rattle.reg_workload.specs.PlayParts.{IsPlaying, IsReadyToCall}

-- a run accepts no more events than it is given
few_in : (start : Op → ℕ → Start) (n registers : ℕ) (es : List Event) (w : World)
    → length (run start n registers es w).accepted ≤ length w.accepted + length es
few_in start n registers [] w = omega arith
few_in start n registers (e ∷ es) w =
    let r = few_in start n registers es (happens start n registers w e) in
    let o = one w e (move_of n registers w e) in
    omega (arith, r, o)
  where
    one : (w : World) (e : Event) (m : Option (ℕ × Step)) → length (moved start w e m).accepted ≤ length w.accepted + 1
    one w e None = omega arith
    one w e (Some m) = let l = length-append w.accepted (e ∷ []) in omega (arith, l)

pub few_accepted : (start : Op → ℕ → Start) (m : Made) → length (run_in start m).accepted ≤ length m.accepted
few_accepted start m =
    let l = few_in start m.processes m.registers m.accepted (empty_world m.processes m.registers) in omega (arith, l)

-- a process has called no more operations than there are calls of it
abbrev CallsFew : (Op → ℕ → Start) → World → Event → ℕ → Option (ℕ × Step) → Type 0
CallsFew start w e p m = ((moved start w e m).nodes p).state.calls ≤ (w.nodes p).state.calls + length (call_at p e)

none_calls : (start : Op → ℕ → Start) (w : World) (e : Event) (p : ℕ) → CallsFew start w e p None
none_calls start w e p = omega arith

some_calls : (start : Op → ℕ → Start) (w : World) (e : Event) (p q : ℕ) (st : Step)
    → (p ≡ q → calls_after st (w.nodes q).state.calls ≤ (w.nodes q).state.calls + length (call_at p e))
    → CallsFew start w e p (Some (q, st))
some_calls start w e p q st h = put_cases (λ (z : Node). z.state.calls ≤ (w.nodes p).state.calls + length (call_at p e)) w.nodes q (after_step start (w.nodes q) st) p
    (λ s.
    let a = calls_are start (w.nodes q).state st in
    let b = h s in
    let c = ap (λ z. (w.nodes z).state.calls) s in
    omega (arith, a, b, c))
    (λ _. omega arith)

event_calls : (start : Op → ℕ → Start) (n registers : ℕ) (w : World) (e : Event) (p : ℕ)
    → CallsFew start w e p (move_of n registers w e)
event_calls start n registers w (Call q op) p =
    let few = nat_lt (length w.accepted) MOST_EVENTS in
    let may = nat_lt q n && (not (is_some (w.nodes q).state.running) && (nat_lt (register_of op) registers && nat_lt (w.nodes q).state.calls MOST_OPERATIONS)) in
    let none = none_calls start w (Call q op) p in
    cond_both few (cond may (Some (q, CallStep op)) None) None (CallsFew start w (Call q op) p)
    (λ _. cond_both may (Some (q, CallStep op)) None (CallsFew start w (Call q op) p)
    (λ _. some_calls start w (Call q op) p q (CallStep op) (λ s. let l = ap length (cond-true (q == p) (op ∷ []) [] (eq-eqb q p (sym s))) in omega (arith, l)))
    (λ _. none))
    (λ _. none)
event_calls start n registers w (Take from to number) p =
    let few = nat_lt (length w.accepted) MOST_EVENTS in
    let may = nat_lt from n && (nat_lt to n && not (from == to)) in
    let none = none_calls start w (Take from to number) p in
    cond_both few (cond may (take_step from to (slice_get ((w.nodes from).wire to) number)) None) None (CallsFew start w (Take from to number) p)
    (λ _. cond_both may (take_step from to (slice_get ((w.nodes from).wire to) number)) None (CallsFew start w (Take from to number) p)
    (λ _. taken (slice_get ((w.nodes from).wire to) number))
    (λ _. none))
    (λ _. none)
  where
    taken : (o : Option Frame) → CallsFew start w (Take from to number) p (take_step from to o)
    taken None = none_calls start w (Take from to number) p
    taken (Some f) = some_calls start w (Take from to number) p to (TakeStep from f) (λ _. omega arith)
event_calls start n registers w (Tick q) p =
    let few = nat_lt (length w.accepted) MOST_EVENTS in
    let none = none_calls start w (Tick q) p in
    cond_both few (cond (nat_lt q n) (Some (q, TickStep)) None) None (CallsFew start w (Tick q) p)
    (λ _. cond_both (nat_lt q n) (Some (q, TickStep)) None (CallsFew start w (Tick q) p)
    (λ _. some_calls start w (Tick q) p q TickStep (λ _. omega arith))
    (λ _. none))
    (λ _. none)

few_calls_in : (start : Op → ℕ → Start) (n registers : ℕ) (es : List Event) (w : World) (p : ℕ)
    → ((run start n registers es w).nodes p).state.calls ≤ (w.nodes p).state.calls + length (calls_of p es)
few_calls_in start n registers [] w p = omega arith
few_calls_in start n registers (e ∷ es) w p =
    let r = few_calls_in start n registers es (happens start n registers w e) p in
    let o = event_calls start n registers w e p in
    let l = length-append (call_at p e) (calls_of p es) in
    omega (arith, r, o, l)

few_calls : (start : Op → ℕ → Start) (m : Made) (p : ℕ)
    → ((run_in start m).nodes p).state.calls ≤ length (calls_of p m.accepted)
few_calls start m p = let l = few_calls_in start m.processes m.registers m.accepted (empty_world m.processes m.registers) p in omega (arith, l)

-- the tests that an event passes
passed : (failed few : Bool) (o : Option WorldFault) → failed ≡ false → few ≡ true → o ≡ None
    → cond failed (Some Failed) (cond few o (Some TooManyEvents)) ≡ None
passed false true o f g h = h
passed true few o f g h = absurd (cc)
passed false false o f g h = absurd (cc)

call_passed : (a b c d : Bool) → a ≡ true → b ≡ false → c ≡ true → d ≡ true
    → cond a (cond b (Some Busy) (cond c (cond d None (Some TooManyOperations)) (Some NoRegister))) (Some NoProcess)
    ≡ None
call_passed a b c d e f g h = rw (e, f, g, h) refl

take_passed : (a b c : Bool) (o : Option Frame) (f : Frame) → a ≡ true → b ≡ true → c ≡ false → o ≡ Some f
    → cond a (cond b (cond c (Some NoFrame) (frame_fault o)) (Some NoProcess)) (Some NoProcess) ≡ None
take_passed a b c o f e g h i = rw (e, g, h, i) refl

room : (start : Op → ℕ → Start) (m : Made) → length m.accepted < MOST_EVENTS
    → nat_lt (length (run_in start m).accepted) MOST_EVENTS ≡ true
room start m l =
    let f = few_accepted start m in lt-ltb (length (run_in start m).accepted) MOST_EVENTS (omega (arith, f, l))

pub tick_allowed : (start : Op → ℕ → Start) (m : Made) (p : ℕ) → m.failed ≡ false → length m.accepted < MOST_EVENTS
    → p < m.processes → refusal start m (Tick p) ≡ None
tick_allowed start m p going few l = passed m.failed (nat_lt (length (run_in start m).accepted) MOST_EVENTS) (cond (nat_lt p m.processes) None (Some NoProcess)) going (room start m few) (cond-true (nat_lt p m.processes) None (Some NoProcess) (lt-ltb p m.processes l))

-- where the wire has a frame that is not behind
pub record HasFrame (start : Op → ℕ → Start) (s : Playing) (from to number : ℕ) : Type 0 where
  pub apart : (from == to) ≡ false
  pub at : number ≡ cursor_at s from to
  pub there : number < length (((run_in start s.made).nodes from).wire to)

pub has_frame : (start : Op → ℕ → Start) (s : Playing) (from to number : ℕ) → next_frame start s from to ≡ Some number
    → HasFrame start s from to number
has_frame start s from to number h =
    let k = length (((run_in start s.made).nodes from).wire to) in
    let r = go (not (from == to)) (nat_lt (cursor_at s from to) k) h in
    record {
      apart = flip (from == to) r.0;
      at = sym r.2;
      there = let l = ltb-true (cursor_at s from to) k r.1 in let e = r.2 in omega (arith, l, e);
    }
  where
    go : (a b : Bool) → cond (a && b) (Some (cursor_at s from to)) None ≡ Some number → (a ≡ true) × (b ≡ true) × (cursor_at s from to ≡ number)
    go true true e = (refl, refl, cc)
    go true false e = absurd (cc)
    go false b e = absurd (cc)

    flip : (b : Bool) → not b ≡ true → b ≡ false
    flip true e = absurd (cc)
    flip false e = refl

pub take_allowed : (start : Op → ℕ → Start) (s : Playing) (from to number : ℕ) → s.made.failed ≡ false
    → length s.made.accepted < MOST_EVENTS → from < s.made.processes → to < s.made.processes
    → next_frame start s from to ≡ Some number → refusal start s.made (Take from to number) ≡ None
take_allowed start s from to number going few lf lt next =
    let m = s.made in
    let H = has_frame start s from to number next in
    let wire = ((run_in start m).nodes from).wire to in
    let there = at_place wire number H.there in
    passed m.failed (nat_lt (length (run_in start m).accepted) MOST_EVENTS) _ going (room start m few)
    (take_passed (nat_lt from m.processes) (nat_lt to m.processes) (from == to) (slice_get wire number) there.0 (lt-ltb from m.processes lf) (lt-ltb to m.processes lt) H.apart there.1)
  where
    at_place : (xs : List Frame) (k : ℕ) → k < length xs → (f : Frame) × (slice_get xs k ≡ Some f)
    at_place [] k l = absurd (omega (arith, l))
    at_place (x ∷ xs) k l = (slice_index_or (x ∷ xs) k x, slice_get-get_or (x ∷ xs) k x l)

pub call_allowed : (start : Op → ℕ → Start) (s : Playing) (p : ℕ) (op : Op) → IsPlaying s → s.made.failed ≡ false
    → length s.made.accepted < MOST_EVENTS → p < s.made.processes → IsReadyToCall start s p → op ≡ next_op s p
    → refusal start s.made (Call p op) ≡ None
call_allowed start s p op good going few l may o =
    let m = s.made in
    let script = script_of s.scripts p in
    let in_scripts : p < length s.scripts = let e = good.scripts in omega (arith, e, l) in
    let fit = good.playable p in_scripts in
    let here : slice_get script (next_at s p) ≡ Some op = slice_get-get_or script (next_at s p) (Read 0) may.left ∙ ap Some (sym o) in
    let known = fit.known (next_at s p) op here in
    let follows = good.follows p l in
    let many : ((run_in start m).nodes p).state.calls < MOST_OPERATIONS =
    let a = few_calls start m p in
    let b = ap length follows.calls in
    let c = length-take-le (next_at s p) script follows.within in
    let d = fit.few in
    let e = may.left in
    omega (arith, a, b, c, d, e) in
    passed m.failed (nat_lt (length (run_in start m).accepted) MOST_EVENTS) _ going (room start m few)
    (call_passed (nat_lt p m.processes) (is_some ((run_in start m).nodes p).state.running) (nat_lt (register_of op) m.registers) (nat_lt ((run_in start m).nodes p).state.calls MOST_OPERATIONS)
    (lt-ltb p m.processes l) (ap is_some may.idle) (lt-ltb (register_of op) m.registers known) (lt-ltb ((run_in start m).nodes p).state.calls MOST_OPERATIONS many))
