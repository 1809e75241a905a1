-- What an event did, by what its world answers before and after it.
use Rattle.std.proofs.Common.{unwrap_or, ℕ, zero, suc, ◌≡◌, ◌+◌, ◌<◌, ◌≤◌, ◌⊎◌, inl, inr, List, [], ◌∷◌, ◌++◌, length}
use Rattle.std.proofs.Common.{drop, take, map, get_or, set, append_assoc, append-nil, Option, refl, sym, ap, ap₂, ◌∙◌}
use Rattle.std.proofs.Common.{arith, drop-cons}
use Rattle.std.proofs.lemmas.List.{get_or-set_same, get_or-set_other, drop_all}
use Rattle.std.specs.Prelude.{slice_get, slice_index, cond, ◌==◌}
use Rattle.std.proofs.lemmas.Bool.{cases_eq, cases_order, eq-eqb}
use Rattle.reg_base.specs.Memory.{Memory, after, register_of}
use Rattle.reg_base.specs.declared.stamps.Delivered.{Delivered}
use Rattle.reg_base.specs.declared.memory.Op.{Op}
use Rattle.reg_frames.specs.declared.bodies.Frame.{Frame}
use Rattle.reg_front.specs.declared.starts.Start.{Start}
use Rattle.reg_process.specs.declared.steps.Reply.{Reply}
use Rattle.reg_process.specs.Known.{IsNoPeer}
use Rattle.reg_process.specs.Process.{State}
use Rattle.reg_process.specs.declared.events.Event.{Event}
use Rattle.reg_world.specs.World.{delivered_of}
use Rattle.reg_world.specs.Histories.{process_of}
use Rattle.reg_world.specs.Worlds.{Made, run_in, with_event, reply_in}
use Rattle.reg_trace.specs.declared.moments.Delivery.{Delivery}
use Rattle.reg_trace.specs.declared.moments.Sent.{Sent}
use Rattle.reg_trace.specs.declared.waits.Wait.{Wait}
use Rattle.reg_trace.specs.Waits.{waits_of}
use Rattle.reg_trace.specs.Moments.{Fact, deliveries_of, expected_by, frame_taken, out_of_turn, placed, puts_since}
use Rattle.reg_trace.specs.Moments.{moment_between, moment_of, moments_from}

pub puts_same : (p : ℕ) (f g : ℕ → ℕ) (wire : ℕ → List Frame) (n : ℕ) → ((to : ℕ) → to < n → (to ≡ p → ⊥) → f to ≡ g to)
    → puts_since p f wire n ≡ puts_since p g wire n
puts_same p f g wire zero h = refl
puts_same p f g wire (suc n) h = ap₂ (λ (a b : List Sent). a ++ b) (puts_same p f g wire n (λ to l ne. h to (omega (arith, l)) ne)) (one (cases_eq n p))
  where
    one : (n ≡ p) ⊎ (n ≡ p → ⊥) → cond (n == p) [] (placed n (f n) (drop (f n) (wire n))) ≡ cond (n == p) [] (placed n (g n) (drop (g n) (wire n)))
    one (inl e) = rw (eq-eqb n p e) refl
    one (inr ne) = ap (λ k. cond (n == p) [] (placed n k (drop k (wire n)))) (h n (omega arith) ne)

-- all other processes are peers
pub is_peer : (s : State) (n from to : ℕ) → length s.peers ≡ n → s.me ≡ to → from < n → (from ≡ to → ⊥)
    → IsNoPeer s from → ⊥
is_peer s n from to size me l ne (inl ge) = absurd (omega (arith, size, l, ge))
is_peer s n from to size me l ne (inr e) = ne (e ∙ me)

-- an event told with its parts
pub told_is : (start : Op → ℕ → Start) (w : Made) (e : Event) (new : Made) (p : ℕ) (frame : Option Frame)
    (awaited expected : Option ℕ) (clock : ℕ) (copy : Memory) (casts : List Delivered) (delivered : List Delivery)
    (reply : Option Reply) (waits : List Wait) (sent : List Sent) (before behind : ℕ) (lengths : ℕ → ℕ)
    → new ≡ with_event start w e → p ≡ process_of e → frame ≡ frame_taken w.processes (run_in start w).nodes e → awaited ≡ expected_by w.processes (run_in start w).nodes e → expected ≡ out_of_turn frame awaited → clock ≡ ((run_in start new).nodes p).state.clock
    → before ≡ ((run_in start w).nodes p).state.delivered → behind ≡ ((run_in start new).nodes p).state.delivered → casts ≡ drop before (take behind (map delivered_of (run_in start new).order))
    → copy ≡ ((run_in start w).nodes p).state.copy → delivered ≡ deliveries_of casts copy
    → reply ≡ reply_in start w e → ((to : ℕ) → to < w.processes → (to ≡ p → ⊥) → lengths to ≡ length (((run_in start w).nodes p).wire to))
    → waits ≡ waits_of new.processes ((run_in start new).nodes p).state ((run_in start new).nodes p).state.held
    → sent ≡ puts_since p lengths ((run_in start new).nodes p).wire new.processes
    → record { event = e; process = p; frame = frame; expected = expected; clock = clock; delivered = delivered; reply = reply; waits = waits; sent = sent } ≡ moment_of start w e
told_is start w e new p frame awaited expected clock copy casts delivered reply waits sent before behind lengths is_new is_p is_frame is_awaited is_expected is_clock is_before is_behind are_casts is_copy is_delivered is_reply are_lengths is_waits is_sent =
    let same : puts_since p lengths ((run_in start new).nodes p).wire w.processes ≡ puts_since p (λ to. length (((run_in start w).nodes p).wire to)) ((run_in start new).nodes p).wire w.processes =
    puts_same p lengths (λ to. length (((run_in start w).nodes p).wire to)) ((run_in start new).nodes p).wire w.processes are_lengths in
    let count : new.processes ≡ w.processes = ap Made.processes is_new in
    let sent_is : sent ≡ puts_since p (λ to. length (((run_in start w).nodes p).wire to)) ((run_in start new).nodes p).wire w.processes = is_sent ∙ (ap (puts_since p lengths ((run_in start new).nodes p).wire) count ∙ same) in
    let waits_is : waits ≡ waits_of w.processes ((run_in start new).nodes p).state ((run_in start new).nodes p).state.held = is_waits ∙ ap (λ n. waits_of n ((run_in start new).nodes p).state ((run_in start new).nodes p).state.held) count in
    let casts_are : casts ≡ drop ((run_in start w).nodes p).state.delivered (take ((run_in start new).nodes p).state.delivered (map delivered_of (run_in start new).order)) =
    are_casts ∙ ap₂ (λ (a b : ℕ). drop a (take b (map delivered_of (run_in start new).order))) is_before is_behind in
    let delivered_is : delivered ≡ deliveries_of (drop ((run_in start w).nodes p).state.delivered (take ((run_in start new).nodes p).state.delivered (map delivered_of (run_in start new).order))) ((run_in start w).nodes p).state.copy =
    is_delivered ∙ ap₂ deliveries_of casts_are is_copy in
    let turn : expected ≡ out_of_turn (frame_taken w.processes (run_in start w).nodes e) (expected_by w.processes (run_in start w).nodes e) = is_expected ∙ ap₂ out_of_turn is_frame is_awaited in
    let here : record { event = e; process = p; frame = frame; expected = expected; clock = clock; delivered = delivered; reply = reply; waits = waits; sent = sent } ≡ moment_between w.processes e p (reply_in start w e) (run_in start w) (run_in start new) =
    λ i. record { event = e; process = p; frame = is_frame i; expected = turn i; clock = is_clock i; delivered = delivered_is i; reply = is_reply i; waits = waits_is i; sent = sent_is i } in
    here ∙ ap₂ (λ (q : ℕ) (v : Made). moment_between w.processes e q (reply_in start w e) (run_in start w) (run_in start v)) is_p is_new

-- one more length
pub length_noted : (lengths : List ℕ) (wire : ℕ → List Frame) (p to v : ℕ)
    → ((k : ℕ) → k < to → (k ≡ p → ⊥) → slice_index lengths k ≡ length (wire k)) → to < length lengths
    → v ≡ length (wire to) → (k : ℕ) → k < to + 1 → (k ≡ p → ⊥) → slice_index (set lengths to v) k ≡ length (wire k)
length_noted lengths wire p to v so room is k lt ne = by (cases_eq k to)
  where
    by : (k ≡ to) ⊎ (k ≡ to → ⊥) → slice_index (set lengths to v) k ≡ length (wire k)
    by (inl e) = ap (slice_index (set lengths to v)) e ∙ (get_or-set_same lengths to v 0 room ∙ (is ∙ ap (λ j. length (wire j)) (sym e)))
    by (inr other) = get_or-set_other lengths to k v 0 other ∙ so k (below (cases_order k to)) ne
      where
        below : (k ≡ to) ⊎ ((k < to) ⊎ (to < k)) → k < to
        below (inl e) = absurd (other e)
        below (inr (inl l)) = l
        below (inr (inr g)) = absurd (omega (arith, lt, g))

-- no wire to itself
pub length_passed : (lengths : List ℕ) (wire : ℕ → List Frame) (p to n : ℕ)
    → ((k : ℕ) → k < to → (k ≡ p → ⊥) → slice_index lengths k ≡ length (wire k)) → p < n → to < n
    → (n ≤ p) ⊎ ((n ≤ to) ⊎ (p ≡ to)) → (k : ℕ) → k < to + 1 → (k ≡ p → ⊥) → slice_index lengths k ≡ length (wire k)
length_passed lengths wire p to n so a b none k lt ne = by (cases_order k to)
  where
    own : (n ≤ p) ⊎ ((n ≤ to) ⊎ (p ≡ to)) → p ≡ to
    own (inl h) = absurd (omega (arith, h, a))
    own (inr (inl h)) = absurd (omega (arith, h, b))
    own (inr (inr e)) = e

    by : (k ≡ to) ⊎ ((k < to) ⊎ (to < k)) → slice_index lengths k ≡ length (wire k)
    by (inl e) = absurd (ne (e ∙ sym (own none)))
    by (inr (inl l)) = so k l ne
    by (inr (inr g)) = absurd (omega (arith, lt, g))

-- one more event told
pub one_told : (start : Op → ℕ → Start) (w new : Made) (moments pushed all : List Fact) (m : Fact) (events : List Event)
    (i : ℕ) (d : Event)
    → i < length events → new ≡ with_event start w (get_or events i d) → m ≡ moment_of start w (get_or events i d)
    → pushed ≡ moments ++ m ∷ [] → moments ++ moments_from start w (drop i events) ≡ all
    → pushed ++ moments_from start new (drop (i + 1) events) ≡ all
one_told start w new moments pushed all m events i d lt is_new is_m is_pushed so =
    let e = get_or events i d in
    let k : i + 1 ≡ suc i = omega arith in
    let rest = moments_from start (with_event start w e) (drop (suc i) events) in
    ap₂ (λ (a : List Fact) (v : Made). a ++ moments_from start v (drop (i + 1) events)) is_pushed is_new
    ∙ (ap (λ (j : ℕ). (moments ++ m ∷ []) ++ moments_from start (with_event start w e) (drop j events)) k
    ∙ (append_assoc moments (m ∷ []) rest
    ∙ (ap (λ (f : Fact). moments ++ f ∷ rest) is_m
    ∙ (ap (λ (es : List Event). moments ++ moments_from start w es) (sym (drop-cons events i d lt)) ∙ so))))

-- all events told
pub all_told : (start : Op → ℕ → Start) (w : Made) (moments all : List Fact) (events : List Event) (i : ℕ)
    → length events ≤ i → moments ++ moments_from start w (drop i events) ≡ all → moments ≡ all
all_told start w moments all events i ge so =
    sym (append-nil moments) ∙ (ap (λ (es : List Event). moments ++ moments_from start w es) (sym (drop_all i events ge)) ∙ so)

-- one more cast delivered
pub one_delivered : (items pushed all : List Delivery) (copy new : Memory) (casts : List Delivered) (i : ℕ)
    (d : Delivered) (x : Delivery)
    → i < length casts → x.cast ≡ get_or casts i d
    → x.value ≡ slice_index (after (get_or casts i d).op copy) (register_of (get_or casts i d).op)
    → new ≡ after (get_or casts i d).op copy
    → pushed ≡ items ++ x ∷ [] → items ++ deliveries_of (drop i casts) copy ≡ all → pushed ++ deliveries_of (drop (i + 1) casts) new ≡ all
one_delivered items pushed all copy new casts i d x lt is_cast is_value is_new is_pushed so =
    let c : Delivered = get_or casts i d in
    let k : i + 1 ≡ suc i = omega arith in
    let here : Delivery = record { cast = c; value = slice_index (after c.op copy) (register_of c.op) } in
    let same : x ≡ here = λ j. record { cast = is_cast j; value = is_value j } in
    let rest = deliveries_of (drop (suc i) casts) (after c.op copy) in
    ap₂ (λ (a : List Delivery) (m : Memory). a ++ deliveries_of (drop (i + 1) casts) m) is_pushed is_new
    ∙ (ap (λ (j : ℕ). (items ++ x ∷ []) ++ deliveries_of (drop j casts) (after c.op copy)) k
    ∙ (append_assoc items (x ∷ []) rest
    ∙ (ap (λ (y : Delivery). items ++ y ∷ rest) same
    ∙ (ap (λ (cs : List Delivered). items ++ deliveries_of cs copy) (sym (drop-cons casts i d lt)) ∙ so))))

-- all delivered
pub all_delivered : (items all : List Delivery) (copy : Memory) (casts : List Delivered) (i : ℕ) → length casts ≤ i
    → items ++ deliveries_of (drop i casts) copy ≡ all → items ≡ all
all_delivered items all copy casts i ge so = sym (append-nil items) ∙ (ap (λ (cs : List Delivered). items ++ deliveries_of cs copy) (sym (drop_all i casts ge)) ∙ so)

-- the value of a register, 0 past the last
pub value_is : (values : List ℕ) (r : ℕ) → unwrap_or (slice_get values r) 0 ≡ slice_index values r
value_is [] r = refl
value_is (x ∷ xs) zero = refl
value_is (x ∷ xs) (suc r) = value_is xs r
