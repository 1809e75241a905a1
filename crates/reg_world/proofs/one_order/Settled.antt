-- Where nothing is pending, no process is busy and all copies are equal.
use Rattle.std.proofs.Common.{◌≡◌, ℕ, zero, suc, ◌+◌, ◌<◌, max, Bool, true, false, not, List, [], ◌∷◌, ◌++◌, length}
use Rattle.std.proofs.Common.{replicate, Option, Some, None, refl, sym, ap, ◌∙◌, subst, inl, inr, arith}
use Rattle.std.specs.Prelude.{cond, ◌==◌, ◌&&◌, count_by, slice_index_or}
use Rattle.std.specs.List.{filter, list_any}
use Rattle.std.proofs.lemmas.Bool.{cond_both, cases_Bool, eqb-false, eq-eqb, and_from, false≢true}
use Rattle.std.proofs.lemmas.List.{append-nil}
use Rattle.reg_base.specs.declared.memory.Op.{Op}
use Rattle.reg_base.specs.declared.stamps.Delivered.{Delivered}
use Rattle.reg_frames.specs.declared.bodies.Body.{Body}
use Rattle.reg_frames.specs.declared.bodies.Body.TheVariants.{Cast, Ack}
use Rattle.reg_frames.specs.declared.bodies.Frame.{Frame}
use Rattle.reg_frames.specs.declared.bodies.Frame.TheVariants.{Numbered, Got}
use Rattle.reg_front.specs.declared.starts.Start.{Start}
use Rattle.reg_front.specs.declared.starts.Start.TheVariants.{Cast as Casts, CastAndAnswer as CastsAndAnswers}
use Rattle.reg_front.specs.declared.starts.Start.TheVariants.{Look as Looks, Hold as Holds}
use Rattle.reg_process.specs.declared.steps.Step.{Step}
use Rattle.reg_process.specs.declared.steps.Step.TheVariants.{Call, Take, Tick}
use Rattle.reg_process.specs.declared.events.Event.{Event}
use Rattle.reg_base.specs.Order.{In, Rising, insert}
use Rattle.reg_base.specs.Memory.{memory_after}
use Rattle.reg_process.specs.Process.{Peer, no_peer, pending_of, State, Running, Own, Held, is_clear, is_own, peer_at}
use Rattle.reg_process.specs.Process.{stamp_at, cast_at, clear_casts, casts_before, up_to_own, reply_after, reply_of}
use Rattle.reg_process.specs.Process.{still, delivered_state, called, taken, accepted, accepts, queues, cast_made}
use Rattle.reg_process.specs.Process.{quiet, got_frames, unsettled, ops_of}
use Rattle.reg_front.specs.Fronts.{MayStart, KeepsLaws}
use Rattle.reg_world.specs.Nodes.{Node, Nodes, after_step}
use Rattle.reg_world.specs.NodeParts.{nodes_after, NothingPending}
use Rattle.reg_world.specs.Laws.{DeliveriesFull, IsQuiescent}
use Rattle.reg_base.proofs.Orders.{below_irrefl}
use Rattle.reg_base.proofs.Lists.{in_right, filter_in, insert_new, insert_old}
use Rattle.reg_world.proofs.one_order.Local.{held_above}
use Rattle.reg_world.proofs.one_order.Worlds.{Inv, held_made, delivered_made, one_order}
use Rattle.reg_world.proofs.one_order.Acts.{put_cases}
use Rattle.reg_world.proofs.one_order.Firsts.{rising_cut}
use Rattle.reg_world.proofs.one_order.Wholes.{whole_replicas}
use Rattle.reg_world.proofs.one_order.Answered.{all_delivered}
use Rattle.reg_world.specs.World.{move_of, whole}
use Rattle.reg_world.proofs.one_order.NodeLaws.{inv_of}
use Rattle.reg_world.proofs.run.Along.{along}
use Rattle.reg_process.proofs.Deliver.{any_finds, count_cons}
use Rattle.reg_process.proofs.Sending.{count_insert}

-- what runs has its cast among the held, or waits for one
abbrev pub Runs : State → Option Running → Type 0
Runs s None = Unit {0}
Runs s (Some (Own stamp op)) = In (record { stamp = stamp; op = op }) s.held
Runs s (Some (Held op)) = 0 < unsettled s

pub count_parts : (f p : Delivered → Bool) (xs : List Delivered)
    → count_by f (filter p xs) + count_by f (filter (λ c. not (p c)) xs) ≡ count_by f xs
count_parts f p [] = refl
count_parts f p (x ∷ xs) = go (p x) (count_parts f p xs)
  where
    go : (b : Bool) → count_by f (filter p xs) + count_by f (filter (λ c. not (p c)) xs) ≡ count_by f xs → count_by f (cond b (x ∷ filter p xs) (filter p xs)) + count_by f (cond (not b) (x ∷ filter (λ c. not (p c)) xs) (filter (λ c. not (p c)) xs)) ≡ count_by f (x ∷ xs)
    go true e = let a = count_cons f x (filter p xs) in let b = count_cons f x xs in omega (arith, a, b, e)
    go false e = let a = count_cons f x (filter (λ c. not (p c)) xs) in let b = count_cons f x xs in omega (arith, a, b, e)

still_runs : (s : State) (running : Option Running) → Runs s running
    → Runs (delivered_state s) (still (reply_of s (clear_casts s) running) running)
still_runs s None h = tt
still_runs s (Some (Own stamp op)) h =
    let ds = clear_casts s in
    let own : Delivered = record { stamp = stamp; op = op } in
    cond_both (list_any (λ c. (c.stamp.time == stamp.time) && (c.stamp.process == stamp.process)) ds) (Some (reply_after s (casts_before stamp ds) op)) None (λ o. Runs (delivered_state s) (still o (Some (Own stamp op))))
    (λ _. tt)
    (λ e. elim (cases_Bool (is_clear s stamp)) [
      | inl t ↦ absurd (false≢true (sym e ∙ any_finds (λ c. (c.stamp.time == stamp.time) && (c.stamp.process == stamp.process)) own ds (filter_in own (λ c. is_clear s c.stamp) s.held h t) (and_from _ _ (eq-eqb stamp.time stamp.time refl) (eq-eqb stamp.process stamp.process refl))))
      | inr t ↦ filter_in own (λ c. not (is_clear s c.stamp)) s.held h (ap not t)
    ])
still_runs s (Some (Held op)) h =
    let ds = clear_casts s in
    cond_both (count_by (is_own s) ds == unsettled s) (Some (reply_after s (up_to_own s ds) op)) None (λ o. Runs (delivered_state s) (still o (Some (Held op))))
    (λ _. tt)
    (λ e. let z = count_parts (is_own s) (λ c. is_clear s c.stamp) s.held in let ne = eqb-false _ _ e in omega (arith, z, ne))

abbrev pub IsRunning : Node → Type 0
IsRunning x = Runs x.state x.state.running

module _ (x : Node) (R : IsRunning x) where
  -- a held read still waits where one more is held
  pub longer : (s1 : State) (c : Delivered) (running : Option Running) → s1.me ≡ x.state.me
      → s1.held ≡ insert c x.state.held → Runs x.state running → Runs s1 running
  longer s1 c None m e h = tt
  longer s1 c (Some (Own stamp op)) m e h = subst (In (record { stamp = stamp; op = op })) (sym e) (insert_old _ c x.state.held h)
  longer s1 c (Some (Held op)) m e h =
      let a : unsettled s1 ≡ count_by (is_own x.state) (insert c x.state.held) = (λ i. count_by (λ d. d.stamp.process == m i) (e i)) in
      let b = count_insert (is_own x.state) c x.state.held in
      grow (is_own x.state) c x.state.held (unsettled s1) (a ∙ b) h
    where
      grow : (f : Delivered → Bool) (c : Delivered) (xs : List Delivered) (m : ℕ) → m ≡ count_by f (c ∷ xs) → 0 < count_by f xs → 0 < m
      grow f c xs m e h = let a = count_cons f c xs in omega (arith, a, e, h)

  called_runs : (op : Op) (st : Start) → MayStart op (unsettled x.state) st → Runs (called x.state op st).0 (called x.state op st).0.running
  called_runs op Casts may = still_runs (cast_made x.state op (Some (Own (stamp_at (x.state.clock + 1) x.state.me) op))) (Some (Own (stamp_at (x.state.clock + 1) x.state.me) op)) (insert_new _ _ x.state.held refl)
  called_runs op CastsAndAnswers may = still_runs (cast_made x.state op None) None tt
  called_runs op Looks may = tt
  called_runs op Holds may = may.1

  accepted_runs : (a : ℕ) (body : Body) → Runs (accepted x.state a body).0 (accepted x.state a body).0.running
  accepted_runs a (Cast t op) =
      let T = max x.state.clock t + 1 in
      let s1 : State = record (queues T (Ack T) (accepts a t x.state)) { held = insert (cast_at t a op) x.state.held } in
      still_runs s1 x.state.running (longer s1 (cast_at t a op) x.state.running refl refl R)
  accepted_runs a (Ack t) = still_runs (accepts a t x.state) x.state.running R

  taken_runs : (a : ℕ) (f : Frame) → Runs (taken x.state a f).0 (taken x.state a f).0.running
  taken_runs a (Numbered i body) =
      cond_both (i == (peer_at x.state a).expected) (accepted x.state a body) (quiet x.state (got_frames a (peer_at x.state a).expected)) (λ r. Runs r.0 r.0.running)
      (λ _. accepted_runs a body) (λ _. R)
  taken_runs a (Got count) = R

  pub step_runs : (start : Op → ℕ → Start) (e : Step) → KeepsLaws start → IsRunning (after_step start x e)
  step_runs start (Call op) laws = called_runs op (start op (unsettled x.state)) (laws op (unsettled x.state))
  step_runs start (Take a f) laws = taken_runs a f
  step_runs start Tick laws = R

pub runs_after : (start : Op → ℕ → Start) (w : Nodes) (m : Option (ℕ × Step)) → KeepsLaws start
    → ((p : ℕ) → IsRunning (w p)) → (p : ℕ) → IsRunning (nodes_after start w m p)
runs_after start w None laws R = R
runs_after start w (Some m) laws R = λ q. put_cases IsRunning w m.0 (after_step start (w m.0) m.1) q (λ _. step_runs (w m.0) (R m.0) start m.1 laws) (λ _. R q)

pub whole_runs : (start : Op → ℕ → Start) (n registers : ℕ) (events : List Event) → KeepsLaws start → (p : ℕ)
    → IsRunning ((whole start n registers events).nodes p)
whole_runs start n registers events laws =
    along start n registers (λ v. (p : ℕ) → IsRunning (v.nodes p)) (λ p. tt)
    (λ es e h. let w = whole start n registers es in runs_after start w.nodes (move_of n registers w e) laws h) events

none_in : (xs : List Delivered) → ((c : Delivered) → In c xs → ⊥) → xs ≡ []
none_in [] h = refl
none_in (x ∷ xs) h = absurd (h x (inl refl))

not_running : (s : State) (running : Option Running) → Runs s running → s.held ≡ [] → running ≡ None
not_running s None h e = refl
not_running s (Some (Own stamp op)) h e = absurd (subst (In (record { stamp = stamp; op = op })) e h)
not_running s (Some (Held op)) h e = absurd (let z = ap (count_by (is_own s)) e in omega (arith, h, z))

pub same_deliveries : (xs ys rest : List Delivered) → Rising ys → xs ++ rest ≡ ys
    → ((c : Delivered) → In c ys → In c xs) → xs ≡ ys
same_deliveries xs ys [] r e h = sym (append-nil xs) ∙ e
same_deliveries xs ys (z ∷ rest) r e h =
    absurd (below_irrefl z.stamp (rising_cut xs (z ∷ rest) z z (subst Rising (sym e) r) (h z (subst (In z) e (in_right z xs (z ∷ rest) (inl refl)))) (inl refl)))

module _ (start : Op → ℕ → Start) (n registers : ℕ) (events : List Event) (laws : KeepsLaws start) (none : NothingPending n (whole start n registers events).nodes) where
  abbrev w : Nodes
  w = (whole start n registers events).nodes

  abbrev k : ℕ
  k = length (whole start n registers events).accepted

  I : Inv n registers k w
  I = inv_of start n registers events

  full : DeliveriesFull n w
  full = all_delivered start n registers events none

  settled : (p : ℕ) → p < n → (w p).state.running ≡ None
  settled p l =
      let empty_held : (w p).state.held ≡ [] = none_in (w p).state.held (λ c h.
      let f = full p c l (held_made n registers k w I p l c h) in
      below_irrefl c.stamp (held_above n p (w p).state (w p).deliveries (I.local p l) c c f h)) in
      not_running (w p).state (w p).state.running (whole_runs start n registers events laws p) empty_held

  copies_equal : (p q : ℕ) → p < n → q < n → (w p).state.copy ≡ (w q).state.copy
  copies_equal p q l m =
      let into : (a b : ℕ) → a < n → b < n → (c : Delivered) → In c (w a).deliveries → In c (w b).deliveries = λ a b la lb c h. full b c lb (delivered_made n registers k w I a la c h) in
      let same : (w p).deliveries ≡ (w q).deliveries = elim (one_order n registers k w I p q l m) [
        | inl h ↦ same_deliveries (w p).deliveries (w q).deliveries h.0 (I.local q m).deliveries_rise h.1 (into q p m l)
        | inr h ↦ sym (same_deliveries (w q).deliveries (w p).deliveries h.0 (I.local p l).deliveries_rise h.1 (into p q l m))
      ] in
      let R = whole_replicas start n registers events laws in
      (R p l).copy ∙ (ap (λ f. memory_after (ops_of f) (replicate registers 0)) same ∙ sym (R q m).copy)

  pub quiescent : IsQuiescent n w
  quiescent = record { full = full; idle = settled; equal = copies_equal }

-- no pending frames over all links, so none on one
pub none_on_link : (peers : List Peer) (q : ℕ) → pending_of peers ≡ 0 → (slice_index_or peers q no_peer).pending ≡ []
none_on_link [] q e = refl
none_on_link (x ∷ xs) zero e = nothing_in x.pending (omega (arith, e))
  where
    nothing_in : {X : Type 0} (ys : List X) → length ys ≡ 0 → ys ≡ []
    nothing_in [] l = refl
    nothing_in (y ∷ ys) l = absurd (omega (arith, l))
none_on_link (x ∷ xs) (suc q) e = none_on_link xs q (omega (arith, e))
