-- The laws of a run.
use Rattle.std.proofs.Common.{◌≡◌, ℕ, zero, suc, ◌+◌, ◌<◌, ◌≤◌, List, [], ◌∷◌, ◌++◌, length, drop, Option, Some, None}
use Rattle.std.proofs.Common.{refl, sym, ap, ◌∙◌, subst, inl, inr, arith, append_assoc}
use Rattle.reg_base.specs.declared.limits.TheConstants.{FRAME_NUMBERS, LAST_TIME, MOST_EVENTS}
use Rattle.std.specs.Prelude.{slice_get}
use Rattle.std.proofs.lemmas.List.{append-nil, length-replicate}
use Rattle.reg_base.specs.declared.memory.Op.{Op}
use Rattle.reg_frames.specs.declared.bodies.Body.{Body}
use Rattle.reg_frames.specs.declared.bodies.Frame.{Frame}
use Rattle.reg_frames.specs.declared.bodies.Frame.TheVariants.{Numbered, Got}
use Rattle.reg_front.specs.declared.starts.Start.{Start}
use Rattle.reg_process.specs.declared.steps.Step.{Step}
use Rattle.reg_process.specs.declared.events.Event.{Event}
use Rattle.reg_base.specs.Order.{In, Rising, IsPrefixOf}
use Rattle.reg_process.specs.Process.{no_peer, peer_at, time_of, next_of, step}
use Rattle.reg_world.specs.Nodes.{Node, Nodes, put, after_step, empty, first_state}
use Rattle.reg_world.specs.NodeParts.{nodes_after}
use Rattle.reg_world.specs.World.{World, move_of, moved, happens, run, empty_world, whole}
use Rattle.reg_world.proofs.run.Traced.{count_after}
use Rattle.reg_world.proofs.run.Along.{moves, run_parts, along, few_events}
use Rattle.reg_world.specs.Laws.{DeliveriesAgree, DeliveriesRise, UndeliveredAbove, DeliveriesMade, NoRefusal, IsAhead}
use Rattle.reg_world.specs.Laws.{IsStale, IsFull}
use Rattle.reg_base.proofs.Lists.{in_left, in_cases}
use Rattle.reg_world.proofs.one_order.Worlds.{Inv, one_order, delivered_made, clear_is_delivered}
use Rattle.reg_checkers.proofs.Places.{element_at}
use Rattle.reg_world.proofs.lists.Bodies.{place_within}
use Rattle.reg_world.proofs.one_order.Links.{Sent}
use Rattle.reg_base.proofs.Orders.{below_or}
use Rattle.reg_process.proofs.Peers.{clear_down}
use Rattle.reg_world.proofs.one_order.Acts.{put_cases, inv_act}
use Rattle.reg_world.proofs.one_order.NodeEvents.{next_is}
use Rattle.reg_world.proofs.one_order.Runs.{StepKept, step_ok}
use Rattle.reg_process.proofs.Again.{replicate_at}
use Rattle.reg_world.proofs.one_order.Firsts.{rising_cut}

pub empty_inv : (n registers : ℕ) → Inv n registers 0 (empty n registers)
empty_inv n registers = record {
  local = λ p l. record {
    me = refl;
    size = length-replicate n no_peer;
    held = tt;
    deliveries_rise = tt;
    waits = λ c h. absurd h;
    clear = λ c h. absurd h;
    held_times = λ c h. absurd h;
    delivery_times = λ c h. absurd h;
    seen = λ r m ne. let z = ap (λ q. q.seen) (replicate_at n r no_peer) in omega (arith, z);
  };
  sent = λ p l. record { rises = λ i j a b h. cc; past = λ i a h. absurd (let bad : ⊥ = cc in bad); ranges = λ i a h. absurd (let bad : ⊥ = cc in bad) };
  link = λ a b la lb ne.
      let x = replicate_at n b no_peer in
      let y = replicate_at n a no_peer in
      let e = ap (λ q. q.expected) y in
      let f = ap (λ q. q.first) x in
      let g = ap (λ q. q.seen) y in
      record {
        within = omega (arith, e);
        acked = omega (arith, e, f);
        pending = ap (λ q. q.pending) x ∙ sym (drop_nil (peer_at (first_state n registers a) b).first);
        numbered = λ i d h. absurd h;
        out = λ i d h. absurd (let bad : ⊥ = cc in bad);
        counts = λ c h. absurd h;
        past = λ i d h. absurd (let bad : ⊥ = cc in bad);
        future = λ i d h. absurd (let bad : ⊥ = cc in bad);
        seen = omega (arith, g);
      };
  known = λ q l. record { sound = λ c h. absurd h; complete = λ r i t op m k h. absurd (let bad : ⊥ = cc in bad) };
  clocks = λ p l. omega arith;
}
  where
    drop_nil : (f : ℕ) → drop {A = Body} f [] ≡ []
    drop_nil zero = refl
    drop_nil (suc f) = refl

-- a clock is at most the number of events
inv_after : (start : Op → ℕ → Start) (n registers k : ℕ) (w : Nodes) (m : Option (ℕ × Step)) → Inv n registers k w
    → StepKept start n registers k w m → Inv n registers (count_after k m) (nodes_after start w m)
inv_after start n registers k w None I K = I
inv_after start n registers k w (Some m) I K = subst (λ c. Inv n registers c (put w m.0 (after_step start (w m.0) m.1))) (let e : suc k ≡ k + 1 = omega arith in e) (inv_act n registers k m.0 w _ K.0 I K.1)

-- what a move of a run owes
pub move_ok : (start : Op → ℕ → Start) (n registers k : ℕ) (w : World) (e : Event) → Inv n registers k w.nodes
    → StepKept start n registers k w.nodes (move_of n registers w e)
move_ok start n registers k w e I =
    moves n registers w e (StepKept start n registers k w.nodes) (step_ok start n registers k w.nodes e I) tt

pub inv_of : (start : Op → ℕ → Start) (n registers : ℕ) (events : List Event)
    → let w = whole start n registers events in Inv n registers (length w.accepted) w.nodes
inv_of start n registers =
    along start n registers (λ v. Inv n registers v.count v.nodes) (empty_inv n registers)
    (λ events e I. let w = whole start n registers events in inv_after start n registers (length w.accepted) w.nodes (move_of n registers w e) I (move_ok start n registers (length w.accepted) w e I))

-- what a step of the run owes
pub run_ok : (start : Op → ℕ → Start) (n registers : ℕ) (events : List Event) (e : Event)
    → let w = whole start n registers events in StepKept start n registers (length w.accepted) w.nodes
    (move_of n registers w e)
run_ok start n registers events e = let w = whole start n registers events in move_ok start n registers (length w.accepted) w e (inv_of start n registers events)

module _ (start : Op → ℕ → Start) (n registers : ℕ) (events : List Event) where
  abbrev w : World
  w = whole start n registers events

  abbrev k : ℕ
  k = length w.accepted

  pub deliveries_agree : DeliveriesAgree n w.nodes
  deliveries_agree p q l m = one_order n registers k w.nodes (inv_of start n registers events) p q l m

  pub all_deliveries_rise : DeliveriesRise n w.nodes
  all_deliveries_rise p l = ((inv_of start n registers events).local p l).deliveries_rise

  pub deliveries_made : DeliveriesMade n w.nodes
  deliveries_made q c l h = delivered_made n registers k w.nodes (inv_of start n registers events) q l c h

-- deliveries grow at their ends
after_deliveries : (start : Op → ℕ → Start) (w : Nodes) (m : Option (ℕ × Step)) (q : ℕ)
    → IsPrefixOf (w q).deliveries (nodes_after start w m q).deliveries
after_deliveries start w None q = ([], append-nil (w q).deliveries)
after_deliveries start w (Some m) q =
    let ds = (step start (w m.0).state m.1).1.delivered in
    put_cases (λ (z : Node). IsPrefixOf (w q).deliveries z.deliveries) w m.0 (after_step start (w m.0) m.1) q (λ e. (ds, ap (λ q. (w q).deliveries ++ ds) e)) (λ ne. ([], append-nil (w q).deliveries))

moved_deliveries : (start : Op → ℕ → Start) (w : World) (e : Event) (m : Option (ℕ × Step)) (q : ℕ)
    → IsPrefixOf (w.nodes q).deliveries ((moved start w e m).nodes q).deliveries
moved_deliveries start w e None q = after_deliveries start w.nodes None q
moved_deliveries start w e (Some m) q = after_deliveries start w.nodes (Some m) q

run_deliveries : (start : Op → ℕ → Start) (n registers : ℕ) (events : List Event) (w : World) (q : ℕ)
    → IsPrefixOf (w.nodes q).deliveries ((run start n registers events w).nodes q).deliveries
run_deliveries start n registers [] w q = ([], append-nil (w.nodes q).deliveries)
run_deliveries start n registers (e ∷ es) w q =
    let a = moved_deliveries start w e (move_of n registers w e) q in
    let b = run_deliveries start n registers es (happens start n registers w e) q in
    (a.0 ++ b.0, sym (append_assoc (w.nodes q).deliveries a.0 b.0) ∙ (ap (λ f. f ++ b.0) a.1 ∙ b.1))

pub undelivered_later : (start : Op → ℕ → Start) (n registers : ℕ) (events more : List Event)
    → UndeliveredAbove n (whole start n registers events).nodes (whole start n registers (events ++ more)).nodes
undelivered_later start n registers events more q c d l m ne h =
    let w1 = (whole start n registers events).nodes in
    let longer = whole start n registers (events ++ more) in
    let w2 = longer.nodes in
    let I = inv_of start n registers (events ++ more) in
    let e : longer ≡ run start n registers more (whole start n registers events) = run_parts start n registers events more (empty_world n registers) in
    let grown = run_deliveries start n registers more (whole start n registers events) q in
    let f2 : (w1 q).deliveries ++ grown.0 ≡ (w2 q).deliveries = grown.1 ∙ ap (λ (w : World). (w.nodes q).deliveries) (sym e) in
    elim (below_or d.stamp c.stamp) [
      | inl b ↦ b
      | inr b ↦
          let d2 : In d (w2 q).deliveries = subst (In d) f2 (in_left d (w1 q).deliveries grown.0 h) in
          let clear = clear_down (w2 q).state c.stamp d.stamp b ((I.local q l).clear d d2) in
          let c2 = clear_is_delivered n registers (length longer.accepted) w2 I q l c m clear in
          elim (in_cases c (w1 q).deliveries grown.0 (subst (In c) (sym f2) c2)) [
            | inl i ↦ absurd (ne i)
            | inr i ↦ rising_cut (w1 q).deliveries grown.0 d c (subst Rising (sym f2) (I.local q l).deliveries_rise) h i
          ]
    ]

-- a body's time is not below its number
timely : (registers : ℕ) (queued : List Body) (clock : ℕ) → Sent registers queued clock → (i : ℕ) (body : Body)
    → slice_get queued i ≡ Some body → i ≤ time_of body
timely registers queued clock S zero body at = omega arith
timely registers queued clock S (suc i) body at =
    let before = element_at queued i (let z = place_within queued (suc i) body at in omega (arith, z)) in
    let z = timely registers queued clock S i before.0 before.1 in
    let v = S.rises i (suc i) before.0 body before.1 at (omega arith) in
    omega (arith, z, v)

few_bodies : (registers : ℕ) (queued : List Body) (clock : ℕ) → Sent registers queued clock → (k : ℕ)
    → length queued ≡ k → k ≤ clock + 1
few_bodies registers queued clock S zero e = omega arith
few_bodies registers queued clock S (suc k) e =
    let last = element_at queued k (omega (arith, e)) in
    let z = timely registers queued clock S k last.0 last.1 in
    let v = S.past k last.0 last.1 in
    omega (arith, z, v)

-- what is known of all nodes leaves no refusal
module _ (n registers k : ℕ) (w : Nodes) (I : Inv n registers k w) (few : k ≤ MOST_EVENTS) where
  left : (a b : ℕ) → a < n → b < n → (a ≡ b → ⊥) → next_of (peer_at (w a).state b) < FRAME_NUMBERS
  left a b la lb ne =
      let v = next_is (w a).queued (w a).state.clock (peer_at (w a).state b) (peer_at (w b).state a) ((w a).wire b) ((w b).wire a) (I.link a b la lb ne) in
      let z = few_bodies registers (w a).queued (w a).state.clock (I.sent a la) (length (w a).queued) refl in
      let u = I.clocks a la in
      let m : MOST_EVENTS + 1 < FRAME_NUMBERS = omega arith in
      omega (arith, v, z, u, few)

  ahead : (a b : ℕ) (f : Frame) → a < n → b < n → (a ≡ b → ⊥) → In f ((w a).wire b) → IsAhead (w b).state a f → ⊥
  ahead a b (Numbered i body) la lb ne h z = z
  ahead a b (Got c) la lb ne h z =
      let K = I.link b a lb la (λ e. ne (sym e)) in
      let x = K.counts c h in
      let y = K.within in
      let v = next_is (w b).queued (w b).state.clock (peer_at (w b).state a) (peer_at (w a).state b) ((w b).wire a) ((w a).wire b) K in
      omega (arith, x, y, v, z)

  stale : (a b : ℕ) (f : Frame) → a < n → b < n → (a ≡ b → ⊥) → In f ((w a).wire b) → IsStale (w b).state a f → ⊥
  stale a b (Numbered i body) la lb ne h z =
      let K = I.link a b la lb ne in
      let x = K.future i body (K.numbered i body h) (let e = z.0 in omega (arith, e)) in
      let y = z.1 in
      omega (arith, x, y)
  stale a b (Got c) la lb ne h z = z

  full : (a b : ℕ) (f : Frame) → a < n → b < n → (a ≡ b → ⊥) → In f ((w a).wire b) → IsFull (w b).state a f → ⊥
  full a b (Numbered i body) la lb ne h z =
      let K = I.link a b la lb ne in
      let x = (I.sent a la).past i body (K.numbered i body h) in
      let y = I.clocks a la in
      let v = I.clocks b lb in
      let u = z.1 in
      omega (arith, x, y, v, u, few)
  full a b (Got c) la lb ne h z = z

  not_refused : NoRefusal n registers w
  not_refused = record {
    not_ahead = ahead;
    not_stale = stale;
    not_full = full;
    call_fits = λ p l. let z = I.clocks p l in let m : MOST_EVENTS + 1 ≤ LAST_TIME = omega arith in omega (arith, z, few);
    number_left = left;
    in_range = λ a b i body la lb ne h. (I.sent a la).ranges i body ((I.link a b la lb ne).numbered i body h);
  }

pub no_refusal : (start : Op → ℕ → Start) (n registers : ℕ) (events : List Event)
    → NoRefusal n registers (whole start n registers events).nodes
no_refusal start n registers events = let w = whole start n registers events in not_refused n registers (length w.accepted) w.nodes (inv_of start n registers events) (few_events start n registers events)
