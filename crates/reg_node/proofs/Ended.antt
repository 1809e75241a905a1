-- Where what was told says that a chapter is over, no process queues another body.
use Rattle.std.proofs.Common.{◌≡◌, ℕ, zero, suc, ◌+◌, ◌-◌, ◌<◌, ◌≤◌, ◌⊎◌, inl, inr, max, not, ◌&&◌, Bool, true, false}
use Rattle.std.proofs.Common.{List, [], ◌∷◌, ◌++◌, length, take, drop, Option, Some, None, refl, sym, ap, ◌∙◌, subst}
use Rattle.std.proofs.Common.{arith, length-append, length-drop}
use Rattle.std.specs.Prelude.{cond, slice_get, slice_index_or, slice_set, nat_lt, ◌==◌}
use Rattle.std.specs.Option.{option_to_list}
use Rattle.std.proofs.lemmas.List.{nil_from_length, take_all}
use Rattle.std.proofs.lemmas.Bool.{cond_both, eqb-true, eqb-false, ltb-true, and_parts, not-true}
use Rattle.reg_base.specs.declared.memory.Op.{Op}
use Rattle.reg_base.specs.Order.{In}
use Rattle.reg_frames.specs.declared.bodies.Body.{Body}
use Rattle.reg_frames.specs.declared.bodies.Body.TheVariants.{Cast, Ack}
use Rattle.reg_frames.specs.declared.bodies.Frame.{Frame}
use Rattle.reg_frames.specs.declared.bodies.Frame.TheVariants.{Numbered, Got}
use Rattle.reg_front.specs.declared.starts.Start.{Start}
use Rattle.reg_front.specs.declared.starts.Start.TheVariants.{Cast as Casts, CastAndAnswer as CastsAndAnswers}
use Rattle.reg_front.specs.declared.starts.Start.TheVariants.{Look as Looks, Hold as Holds}
use Rattle.reg_process.specs.declared.steps.Step.{Step}
use Rattle.reg_process.specs.declared.steps.Step.TheVariants.{Call as CallStep, Take as TakeStep, Tick as TickStep}
use Rattle.reg_process.specs.declared.events.Event.{Event}
use Rattle.reg_process.specs.declared.events.Event.TheVariants.{Call, Take, Tick}
use Rattle.reg_process.specs.Process.{State, Outcome, Peer, no_peer, peer_at, next_of, pending_of, queue_from, accepts}
use Rattle.reg_process.specs.Process.{accepted, acknowledged, called, taken, quiet, got_frames, no_frames, step}
use Rattle.reg_process.specs.Process.{unsettled}
use Rattle.reg_world.specs.Nodes.{Node, Nodes, after_step, take_step, step_of}
use Rattle.reg_world.specs.World.{World, empty_world, happens, moved, move_of, whole}
use Rattle.reg_world.proofs.lists.Bodies.{place_in, place_within}
use Rattle.reg_world.proofs.one_order.Acts.{put_cases}
use Rattle.reg_world.proofs.one_order.NodeEvents.{next_is}
use Rattle.reg_world.proofs.one_order.NodeLaws.{inv_of}
use Rattle.reg_world.proofs.one_order.Worlds.{Inv, LinkOf}
use Rattle.reg_world.specs.NodeParts.{NothingPending}
use Rattle.reg_world.proofs.run.Along.{moves, run_parts}
use Rattle.reg_node.specs.Chapters.{IsDone, IsOver, Standing, Tale}
use Rattle.reg_node.specs.ChapterLaws.{AreTold}

-- What a process queued, and what it accepted, grows

-- what is kept of a process, where nothing falls
record Rises (p q : Peer) : Type 0 where
  pub expected : p.expected ≤ q.expected
  pub first : p.first ≤ q.first

record Grows (x y : Node) : Type 0 where
  pub queued : length x.queued ≤ length y.queued
  pub peers : (r : ℕ) → Rises (peer_at x.state r) (peer_at y.state r)

rises_same : (p : Peer) → Rises p p
rises_same p = record { expected = omega arith; first = omega arith }

rises_on : (p q r : Peer) → Rises p q → Rises q r → Rises p r
rises_on p q r a b = record {
  expected = (let c = a.expected in let d = b.expected in omega (arith, c, d));
  first = (let c = a.first in let d = b.first in omega (arith, c, d));
}

put_on : (b : Bool) (p : Peer) (body : Body) → Rises p (cond b p (record p { pending = p.pending ++ body ∷ [] }))
put_on true p body = rises_same p
put_on false p body = record { expected = omega arith; first = omega arith }

queue_rises : (body : Body) (q me : ℕ) (ps : List Peer) (i : ℕ)
    → Rises (slice_index_or ps i no_peer) (slice_index_or (queue_from q me body ps) i no_peer)
queue_rises body q me [] i = rises_same no_peer
queue_rises body q me (p ∷ ps) zero = put_on (q == me) p body
queue_rises body q me (p ∷ ps) (suc i) = queue_rises body (suc q) me ps i

set_rises : (ps : List Peer) (from : ℕ) (p : Peer) (r : ℕ) → Rises (slice_index_or ps from no_peer) p
    → Rises (slice_index_or ps r no_peer) (slice_index_or (slice_set ps from p) r no_peer)
set_rises [] from p r e = rises_same no_peer
set_rises (x ∷ xs) zero p zero e = e
set_rises (x ∷ xs) zero p (suc r) e = rises_same (slice_index_or xs r no_peer)
set_rises (x ∷ xs) (suc from) p zero e = rises_same x
set_rises (x ∷ xs) (suc from) p (suc r) e = set_rises xs from p r e

module _ (s : State) (r : ℕ) where
  called_rises : (op : Op) (st : Start) → Rises (peer_at s r) (peer_at (called s op st).0 r)
  called_rises op Casts = queue_rises (Cast (s.clock + 1) op) 0 s.me s.peers r
  called_rises op CastsAndAnswers = queue_rises (Cast (s.clock + 1) op) 0 s.me s.peers r
  called_rises op Looks = rises_same (peer_at s r)
  called_rises op Holds = rises_same (peer_at s r)

  accepts_rises : (from time : ℕ) → Rises (peer_at s r) (peer_at (accepts from time s) r)
  accepts_rises from time =
      set_rises s.peers from (record (peer_at s from) { seen = time; expected = (peer_at s from).expected + 1 }) r (record { expected = omega arith; first = omega arith })

  accepted_rises : (from : ℕ) (body : Body) → Rises (peer_at s r) (peer_at (accepted s from body).0 r)
  accepted_rises from (Cast t op) =
      rises_on (peer_at s r) (peer_at (accepts from t s) r) (peer_at (accepted s from (Cast t op)).0 r) (accepts_rises from t) (queue_rises (Ack (max s.clock t + 1)) 0 s.me (accepts from t s).peers r)
  accepted_rises from (Ack t) = accepts_rises from t

  taken_rises : (from : ℕ) (frame : Frame) → Rises (peer_at s r) (peer_at (taken s from frame).0 r)
  taken_rises from (Numbered i body) =
      cond_both (i == (peer_at s from).expected) (accepted s from body) (quiet s (got_frames from (peer_at s from).expected)) (λ (o : State × Outcome). Rises (peer_at s r) (peer_at o.0 r))
      (λ _. accepted_rises from body) (λ _. rises_same (peer_at s r))
  taken_rises from (Got count) =
      set_rises s.peers from (record (peer_at s from) { first = max (peer_at s from).first count; pending = drop (count - (peer_at s from).first) (peer_at s from).pending }) r
      (record { expected = omega arith; first = omega arith })

  step_rises : (start : Op → ℕ → Start) (m : Step) → Rises (peer_at s r) (peer_at (step start s m).0 r)
  step_rises start (CallStep op) = called_rises op (start op (unsettled s))
  step_rises start (TakeStep from frame) = taken_rises from frame
  step_rises start TickStep = rises_same (peer_at s r)

grows_same : (x : Node) → Grows x x
grows_same x = record { queued = omega arith; peers = λ r. rises_same (peer_at x.state r) }

grows_on : (x y z : Node) → Grows x y → Grows y z → Grows x z
grows_on x y z a b = record {
  queued = (let c = a.queued in let d = b.queued in omega (arith, c, d));
  peers = λ r. rises_on (peer_at x.state r) (peer_at y.state r) (peer_at z.state r) (a.peers r) (b.peers r);
}

grows_step : (start : Op → ℕ → Start) (x : Node) (m : Step) → Grows x (after_step start x m)
grows_step start x m = record { queued = (let e = length-append x.queued (option_to_list (step start x.state m).1.body) in omega (arith, e)); peers = λ r. step_rises x.state r start m }

moved_grows : (start : Op → ℕ → Start) (w : World) (e : Event) (m : Option (ℕ × Step)) (p : ℕ)
    → Grows (w.nodes p) ((moved start w e m).nodes p)
moved_grows start w e None p = grows_same (w.nodes p)
moved_grows start w e (Some m) p =
    put_cases (λ (z : Node). Grows (w.nodes p) z) w.nodes m.0 (after_step start (w.nodes m.0) m.1) p
    (λ is. subst (λ (q : ℕ). Grows (w.nodes q) (after_step start (w.nodes m.0) m.1)) (sym is) (grows_step start (w.nodes m.0) m.1)) (λ _. grows_same (w.nodes p))

-- A process that has accepted all that was put queues nothing more, unless it calls

abbrev HasAll : ℕ → Nodes → ℕ → Type 0
HasAll n w p = (r : ℕ) → r < n → (r ≡ p → ⊥) → length (w r).queued ≤ (peer_at (w p).state r).expected

nothing_more : (x : Node) (o : State × Outcome) → o.1.body ≡ None
    → length (x.queued ++ option_to_list o.1.body) ≤ length x.queued
nothing_more x o none = let e = length-append x.queued (option_to_list o.1.body) in let l = ap (λ b. length (option_to_list b)) none in omega (arith, e, l)

taken_still : (x : Node) (from : ℕ) (frame : Frame)
    → ((i : ℕ) (b : Body) → frame ≡ Numbered i b → i < (peer_at x.state from).expected)
    → length (x.queued ++ option_to_list (taken x.state from frame).1.body) ≤ length x.queued
taken_still x from (Numbered i body) old =
    cond_both (i == (peer_at x.state from).expected) (accepted x.state from body) (quiet x.state (got_frames from (peer_at x.state from).expected)) (λ (o : State × Outcome). length (x.queued ++ option_to_list o.1.body) ≤ length x.queued)
    (λ e. let is = eqb-true i (peer_at x.state from).expected e in let less = old i body refl in absurd (omega (arith, is, less))) (λ _. nothing_more x (quiet x.state (got_frames from (peer_at x.state from).expected)) refl)
taken_still x from (Got count) old = nothing_more x (quiet (acknowledged x.state from count) no_frames) refl

module _ (start : Op → ℕ → Start) (n registers k : ℕ) (w : World) (I : Inv n registers k w.nodes) (p : ℕ) (l : p < n) (all : HasAll n w.nodes p) where
  abbrev Still : Event → Option (ℕ × Step) → Type 0
  Still e m = length ((moved start w e m).nodes p).queued ≤ length (w.nodes p).queued

  none_still : (e : Event) → Still e None
  none_still e = omega arith

  -- a step of another, or one of its own that queues nothing
  some_still : (e : Event) (q : ℕ) (m : Step) → (p ≡ q → length (after_step start (w.nodes q) m).queued ≤ length (w.nodes q).queued) → Still e (Some (q, m))
  some_still e q m own =
      put_cases (λ (z : Node). length z.queued ≤ length (w.nodes p).queued) w.nodes q (after_step start (w.nodes q) m) p
      (λ is. let h = own is in let same = ap (λ (j : ℕ). length (w.nodes j).queued) is in omega (arith, h, same)) (λ _. omega arith)

  frame_still : (e : Event) (from to number : ℕ) (o : Option Frame) → slice_get ((w.nodes from).wire to) number ≡ o → from < n → (from ≡ to → ⊥) → Still e (take_step from to o)
  frame_still e from to number None at lf ne = none_still e
  frame_still e from to number (Some frame) at lf ne =
      some_still e to (TakeStep from frame) (λ is. taken_still (w.nodes to) from frame (λ i b same.
      let there : In (Numbered i b) ((w.nodes from).wire to) = subst (λ f. In f ((w.nodes from).wire to)) same (place_in ((w.nodes from).wire to) number frame at) in
      let placed = (I.link from to lf (subst (λ j. j < n) is l) ne).numbered i b there in
      let within = place_within (w.nodes from).queued i b placed in
      let has = subst (λ (j : ℕ). length (w.nodes from).queued ≤ (peer_at (w.nodes j).state from).expected) is (all from lf (λ f. ne (f ∙ is))) in
      omega (arith, within, has)))

  step_still : (e : Event) → ((op : Op) → e ≡ Call p op → ⊥) → Still e (step_of n registers w.nodes e)
  step_still (Call q op) silent = cond_both _ (Some (q, CallStep op)) None (Still (Call q op)) (λ _. some_still (Call q op) q (CallStep op) (λ is. absurd (silent op (ap (λ j. Call j op) (sym is))))) (λ _. none_still (Call q op))
  step_still (Take from to number) silent =
      cond_both (nat_lt from n && (nat_lt to n && not (from == to))) (take_step from to (slice_get ((w.nodes from).wire to) number)) None (Still (Take from to number))
      (λ e. let a = and_parts (nat_lt from n) (nat_lt to n && not (from == to)) e in
      let b = and_parts (nat_lt to n) (not (from == to)) a.1 in
      frame_still (Take from to number) from to number (slice_get ((w.nodes from).wire to) number) refl (ltb-true from n a.0) (eqb-false from to (not-true (from == to) b.1)))
      (λ _. none_still (Take from to number))
  step_still (Tick q) silent =
      cond_both (nat_lt q n) (Some (q, TickStep)) None (Still (Tick q))
      (λ _. some_still (Tick q) q TickStep (λ _. nothing_more (w.nodes q) (step start (w.nodes q).state TickStep) refl)) (λ _. none_still (Tick q))

  still : (e : Event) → ((op : Op) → e ≡ Call p op → ⊥) → length ((happens start n registers w e).nodes p).queued ≤ length (w.nodes p).queued
  still e silent = moves n registers w e (Still e) (step_still e silent) (none_still e)

-- One event after the other

next : (es : List Event) (k : ℕ)
    → (take (suc k) es ≡ take k es)
    ⊎ ((e : Event) × (slice_get es k ≡ Some e) × (take (suc k) es ≡ take k es ++ e ∷ []))
next [] zero = inl refl
next [] (suc k) = inl refl
next (e ∷ es) zero = inr (e, refl, refl)
next (e ∷ es) (suc k) = elim (next es k) [
  | inl same ↦ inl (ap (λ l. e ∷ l) same)
  | inr more ↦ inr (more.0, more.1, ap (λ l. e ∷ l) more.2)
]

last_or_before : (k m : ℕ) → k ≤ suc m → (k ≤ m) ⊎ (k ≡ suc m)
last_or_before k m l = grind arith

before_or_from : (k t : ℕ) → (k < t) ⊎ (t ≤ k)
before_or_from k t = grind arith

inner : {X : Type 0} → (a b : X) (o : Option X) → o ≡ Some a → o ≡ Some b → a ≡ b
inner a b None e f = absurd (let bad : ⊥ = cc in bad)
inner a b (Some c) e f = cc

pending_none : (ps : List Peer) (i : ℕ) → pending_of ps ≡ 0 → length (slice_index_or ps i no_peer).pending ≡ 0
pending_none [] i e = refl
pending_none (p ∷ ps) zero e = omega (arith, e)
pending_none (p ∷ ps) (suc i) e = pending_none ps i (omega (arith, e))

module _ (start : Op → ℕ → Start) (n registers : ℕ) (events : List Event) where
  abbrev at : ℕ → World
  at k = whole start n registers (take k events)

  one_more : (k : ℕ) (e : Event) → take (suc k) events ≡ take k events ++ e ∷ [] → at (suc k) ≡ happens start n registers (at k) e
  one_more k e more = ap (λ l. whole start n registers l) more ∙ run_parts start n registers (take k events) (e ∷ []) (empty_world n registers)

  grown_step : (k p : ℕ) → Grows ((at k).nodes p) ((at (suc k)).nodes p)
  grown_step k p = elim (next events k) [
    | inl same ↦ subst (λ (l : List Event). Grows ((at k).nodes p) ((whole start n registers l).nodes p)) (sym same) (grows_same ((at k).nodes p))
    | inr more ↦ subst (λ (v : World). Grows ((at k).nodes p) (v.nodes p)) (sym (one_more k more.0 more.2)) (moved_grows start (at k) more.0 (move_of n registers (at k) more.0) p)
  ]

  grown_to : (k m p : ℕ) → k ≤ m → Grows ((at k).nodes p) ((at m).nodes p)
  grown_to k zero p l = let e : k ≡ zero = omega (arith, l) in subst (λ (j : ℕ). Grows ((at j).nodes p) ((at zero).nodes p)) (sym e) (grows_same ((at zero).nodes p))
  grown_to k (suc m) p l = elim (last_or_before k m l) [
    | inl b ↦ grows_on ((at k).nodes p) ((at m).nodes p) ((at (suc m)).nodes p) (grown_to k m p b) (grown_step m p)
    | inr e ↦ subst (λ (j : ℕ). Grows ((at j).nodes p) ((at (suc m)).nodes p)) (sym e) (grows_same ((at (suc m)).nodes p))
  ]

  inv_at : (k : ℕ) → Inv n registers (length (at k).accepted) (at k).nodes
  inv_at k = inv_of start n registers (take k events)

  next_at : (k p q : ℕ) → p < n → q < n → (p ≡ q → ⊥) → next_of (peer_at ((at k).nodes p).state q) ≡ length ((at k).nodes p).queued
  next_at k p q lp lq ne =
      let x = (at k).nodes p in let y = (at k).nodes q in
      next_is x.queued x.state.clock (peer_at x.state q) (peer_at y.state p) (x.wire q) (y.wire p) ((inv_at k).link p q lp lq ne)

  module _ (time : ℕ → ℕ) (told : Tale) (T : AreTold start n registers events time told) (over : IsOver told) where
    done : (p : ℕ) → p < n → IsDone told p
    done p l = over p (let e = T.size in omega (arith, e, l))

    -- what a process told is the state that it had then
    is_one : (p : ℕ) (l : p < n) (s : Standing) → slice_get told p ≡ Some (Some s) → s ≡ (T.each p l).standing
    is_one p l s there = let a = inner (Some s) (Some (T.each p l).standing) (slice_get told p) there (T.each p l).there in inner s (T.each p l).standing (Some s) refl a

    was_put : (p q : ℕ) (l : p < n) → q < n → (p ≡ q → ⊥) → length ((at (time p)).nodes p).queued ≤ (T.each p l).standing.put
    was_put p q l m ne =
        let L = (inv_at (time p)).local p l in
        let most = (T.each p l).is.most q (let e = L.size in omega (arith, e, m)) (λ e. ne (sym (e ∙ L.me))) in
        let is = next_at (time p) p q l m ne in
        omega (arith, most, is)

    -- each had accepted what each other told to have put
    had : (p r : ℕ) (l : p < n) (m : r < n) → (r ≡ p → ⊥) → (T.each r m).standing.put ≡ (peer_at ((at (time p)).nodes p).state r).expected
    had p r l m ne =
        let L = (inv_at (time p)).local p l in
        let D = done r m in
        let H = D.accepted p (let e = T.size in omega (arith, e, l)) (λ e. ne (sym e)) in
        let mine = is_one p l H.standing H.there in
        let his = is_one r m D.standing D.there in
        let is = (T.each p l).is.accepted r (let e = L.size in omega (arith, e, m)) (λ e. ne (e ∙ L.me)) in
        let found : slice_get (T.each p l).standing.accepted r ≡ Some D.standing.put = subst (λ (s : Standing). slice_get s.accepted r ≡ Some D.standing.put) mine H.is in
        ap (λ (s : Standing). s.put) (sym his) ∙ inner D.standing.put (peer_at ((at (time p)).nodes p).state r).expected (slice_get (T.each p l).standing.accepted r) found is

    -- so none queues more than it had then
    none_more : (k p q : ℕ) → p < n → q < n → (p ≡ q → ⊥) → length ((at k).nodes p).queued ≤ length ((at (time p)).nodes p).queued
    none_more zero p q l m ne = omega arith
    none_more (suc k) p q l m ne = elim (before_or_from k (time p)) [
      | inl before ↦ (grown_to (suc k) (time p) p (omega (arith, before))).queued
      | inr from ↦ elim (next events k) [
        | inl same ↦ subst (λ (es : List Event). length ((whole start n registers es).nodes p).queued ≤ length ((at (time p)).nodes p).queued) (sym same) (none_more k p q l m ne)
        | inr more ↦
            let all : HasAll n (at k).nodes p = λ r lr other.
            (let a = none_more k r p lr l other in let b = was_put r p lr l other in let c = had p r l lr other in let d = ((grown_to (time p) k p from).peers r).expected in omega (arith, a, b, c, d)) in
            let silent : (op : Op) → more.0 ≡ Call p op → ⊥ = λ op e. T.silent p k op l from (more.1 ∙ ap Some e) in
            let a = still start n registers (length (at k).accepted) (at k) (inv_at k) p l all more.0 silent in
            let b = none_more k p q l m ne in
            let c = ap (λ (v : World). length (v.nodes p).queued) (one_more k more.0 more.2) in
            omega (arith, a, b, c)
      ]
    ]

    abbrev last : World
    last = whole start n registers events

    -- from a time on, up to all events
    abbrev far : ℕ → ℕ
    far p = length events + time p

    at_last : (p : ℕ) → at (far p) ≡ last
    at_last p = ap (λ l. whole start n registers l) (take_all (far p) events (omega arith))

    grown_last : (p q : ℕ) → Grows ((at (time p)).nodes q) (last.nodes q)
    grown_last p q = subst (λ (v : World). Grows ((at (time p)).nodes q) (v.nodes q)) (at_last p) (grown_to (time p) (far p) q (omega arith))

    queued_last : (p q : ℕ) → p < n → q < n → (p ≡ q → ⊥) → length (last.nodes p).queued ≤ length ((at (time p)).nodes p).queued
    queued_last p q l m ne = subst (λ (v : World). length (v.nodes p).queued ≤ length ((at (time p)).nodes p).queued) (at_last p) (none_more (far p) p q l m ne)

    link_last : (p q : ℕ) → p < n → q < n → (p ≡ q → ⊥) → LinkOf p q (last.nodes p) (last.nodes q)
    link_last p q l m ne = (inv_of start n registers events).link p q l m ne

    next_last : (p q : ℕ) → p < n → q < n → (p ≡ q → ⊥) → next_of (peer_at (last.nodes p).state q) ≡ length (last.nodes p).queued
    next_last p q l m ne =
        let x = last.nodes p in let y = last.nodes q in
        next_is x.queued x.state.clock (peer_at x.state q) (peer_at y.state p) (x.wire q) (y.wire p) (link_last p q l m ne)

    -- in the end none has queued more than it told
    pub put_no_more : (p q : ℕ) (s : Standing) → p < n → q < n → (p ≡ q → ⊥) → slice_get told p ≡ Some (Some s) → next_of (peer_at (last.nodes p).state q) ≤ s.put
    put_no_more p q s l m ne there =
        let a = queued_last p q l m ne in
        let b = next_last p q l m ne in
        let c = was_put p q l m ne in
        let d = ap (λ (x : Standing). x.put) (is_one p l s there) in
        omega (arith, a, b, c, d)

    -- each has accepted all that each other queued for it
    pub accepted_all : (p q : ℕ) → p < n → q < n → (p ≡ q → ⊥) → (peer_at (last.nodes q).state p).expected ≡ next_of (peer_at (last.nodes p).state q)
    accepted_all p q l m ne =
        let a = queued_last p q l m ne in
        let b = next_last p q l m ne in
        let c = was_put p q l m ne in
        let d = had q p m l ne in
        let e = ((grown_last q q).peers p).expected in
        let f = (link_last p q l m ne).within in
        omega (arith, a, b, c, d, e, f)

    -- and no frame waits to be acknowledged
    pub none_pending : NothingPending n last.nodes
    none_pending p q l m ne =
        let D = done p l in
        let his = ap (λ (x : Standing). x.is_at_rest) (is_one p l D.standing D.there) in
        let then = (at (time p)).nodes p in
        let none = pending_none then.state.peers q (eqb-true (pending_of then.state.peers) 0 (sym (T.each p l).is.rest ∙ (sym his ∙ D.rest))) in
        let had_next = next_at (time p) p q l m ne in
        let up = ((grown_last p p).peers q).first in
        let few = queued_last p q l m ne in
        let L = link_last p q l m ne in
        let size = ap length L.pending in
        let left = length-drop (peer_at (last.nodes p).state q).first (last.nodes p).queued in
        nil_from_length (peer_at (last.nodes p).state q).pending (omega (arith, none, had_next, up, few, size, left))
