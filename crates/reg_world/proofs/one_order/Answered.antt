-- Each cast that a process knows of another is followed by a later body of its own.
use Rattle.std.proofs.Common.{◌≡◌, ℕ, ◌+◌, ◌<◌, ◌≤◌, ◌⊎◌, max, List, [], ◌∷◌, ◌++◌, length, Option, Some, None, refl}
use Rattle.std.proofs.Common.{sym, ap, ◌∙◌, subst, inl, inr, arith, length-drop}
use Rattle.std.specs.Prelude.{slice_get, ◌==◌}
use Rattle.std.proofs.lemmas.Bool.{cond_both, cases_eq}
use Rattle.std.proofs.lemmas.List.{append-nil}
use Rattle.reg_base.specs.declared.memory.Op.{Op}
use Rattle.reg_base.specs.declared.stamps.Delivered.{Delivered}
use Rattle.reg_frames.specs.declared.bodies.Body.{Body}
use Rattle.reg_frames.specs.declared.bodies.Body.TheVariants.{Cast, Ack}
use Rattle.reg_frames.specs.declared.bodies.Frame.{Frame}
use Rattle.reg_frames.specs.declared.bodies.Frame.TheVariants.{Numbered, Got}
use Rattle.reg_front.specs.declared.starts.Start.{Start}
use Rattle.reg_front.specs.declared.starts.Start.TheVariants.{Cast as Casts, CastAndAnswer as CastsAndAnswers}
use Rattle.reg_front.specs.declared.starts.Start.TheVariants.{Look as Looks, Hold as Holds}
use Rattle.reg_process.specs.declared.steps.Step.{Step}
use Rattle.reg_process.specs.declared.steps.Step.TheVariants.{Call, Take, Tick}
use Rattle.reg_process.specs.declared.events.Event.{Event}
use Rattle.reg_base.specs.Order.{AtMost, In, insert}
use Rattle.reg_process.specs.Process.{State, Running, Own, Held, peer_at, seen_at, stamp_at, cast_at, time_of}
use Rattle.reg_process.specs.Process.{clear_casts, delivered_state, called, taken, accepted, accepts, acknowledged}
use Rattle.reg_process.specs.Process.{queues, cast_made, quiet, got_frames, unsettled}
use Rattle.reg_world.specs.Nodes.{Node, Nodes, running_op, after_result, after_step}
use Rattle.reg_world.specs.NodeParts.{nodes_after, NothingPending}
use Rattle.reg_world.specs.Laws.{DeliveriesFull}
use Rattle.reg_base.proofs.Lists.{in_left, in_right, in_cases, in_insert}
use Rattle.reg_world.proofs.lists.Bodies.{place_first, place_last, place_within}
use Rattle.reg_world.proofs.one_order.Local.{delivery_adds_none}
use Rattle.reg_world.proofs.one_order.Worlds.{Inv, count_other, clear_is_delivered}
use Rattle.reg_world.proofs.one_order.Acts.{put_cases}
use Rattle.reg_world.proofs.one_order.Runs.{StepKept}
use Rattle.reg_world.proofs.one_order.NodeLaws.{inv_of, run_ok}
use Rattle.reg_world.specs.World.{move_of, whole}
use Rattle.reg_world.proofs.run.Along.{along}

abbrev pub Later : List Body → ℕ → Type 0
Later queued t = (j : ℕ) × (b : Body) × (slice_get queued j ≡ Some b) × (t < time_of b)

pub record Answered (p : ℕ) (s : State) (deliveries : List Delivered) (queued : List Body) : Type 0 where
  pub later : (c : Delivered) → In c (deliveries ++ s.held) → (c.stamp.process ≡ p → ⊥) → Later queued c.stamp.time

later_more : (queued more : List Body) (t : ℕ) → Later queued t → Later (queued ++ more) t
later_more queued more t h = (h.0, h.1, place_first queued more h.0 h.1 h.2, h.3)

quiet_answered : (p : ℕ) (s s' : State) (deliveries : List Delivered) (queued : List Body)
    → Answered p s deliveries queued → s'.held ≡ s.held → Answered p s' (deliveries ++ []) (queued ++ [])
quiet_answered p s s' deliveries queued A e = record {
  later = λ c h ne. later_more queued [] c.stamp.time (A.later c (subst (λ h'. In c (deliveries ++ h')) e (subst (λ f. In c (f ++ s'.held)) (append-nil deliveries) h)) ne);
}

loud_answered : (p : ℕ) (s s1 : State) (deliveries : List Delivered) (queued more : List Body)
    → Answered p s deliveries queued
    → ((c : Delivered) → In c s1.held
    → In c s.held ⊎ ((c.stamp.process ≡ p) ⊎ ((b : Body) × (more ≡ b ∷ []) × (c.stamp.time < time_of b))))
    → Answered p (delivered_state s1) (deliveries ++ clear_casts s1) (queued ++ more)
loud_answered p s s1 deliveries queued more A new = record {
  later = λ c h ne. elim (in_cases c deliveries s1.held (delivery_adds_none s1 deliveries c h)) [
    | inl i ↦ later_more queued more c.stamp.time (A.later c (in_left c deliveries s.held i) ne)
    | inr i ↦ elim (new c i) [
      | inl j ↦ later_more queued more c.stamp.time (A.later c (in_right c deliveries s.held j) ne)
      | inr j ↦ elim j [
        | inl e ↦ absurd (ne e)
        | inr b ↦ (length queued, b.0, ap (λ m. slice_get (queued ++ m) (length queued)) b.1 ∙ place_last queued b.0, b.2)
      ]
    ]
  ];
}

abbrev pub IsAnswered : ℕ → Node → Type 0
IsAnswered p x = Answered p x.state x.deliveries x.queued

module _ (p : ℕ) (x : Node) (me : x.state.me ≡ p) (A : IsAnswered p x) where
  cast_answered : (op : Op) (running : Option Running) → Answered p (delivered_state (cast_made x.state op running)) (x.deliveries ++ clear_casts (cast_made x.state op running)) (x.queued ++ Cast (x.state.clock + 1) op ∷ [])
  cast_answered op running =
      loud_answered p x.state (cast_made x.state op running) x.deliveries x.queued (Cast (x.state.clock + 1) op ∷ []) A
      (λ c i. elim (in_insert c (cast_at (x.state.clock + 1) x.state.me op) x.state.held i) [ inl e ↦ inr (inl (ap (λ (d : Delivered). d.stamp.process) e ∙ me)) | inr j ↦ inl j ])

  called_answered : (op : Op) (st : Start) → IsAnswered p (after_result x op (called x.state op st))
  called_answered op Casts = cast_answered op (Some (Own (stamp_at (x.state.clock + 1) x.state.me) op))
  called_answered op CastsAndAnswers = cast_answered op None
  called_answered op Looks = quiet_answered p x.state (record x.state { calls = x.state.calls + 1; running = None }) x.deliveries x.queued A refl
  called_answered op Holds = quiet_answered p x.state (record x.state { calls = x.state.calls + 1; running = Some (Held op) }) x.deliveries x.queued A refl

  accepted_answered : (o : Op) (a : ℕ) (body : Body) → IsAnswered p (after_result x o (accepted x.state a body))
  accepted_answered o a (Cast t op) =
      let T = max x.state.clock t + 1 in
      loud_answered p x.state (record (queues T (Ack T) (accepts a t x.state)) { held = insert (cast_at t a op) x.state.held }) x.deliveries x.queued (Ack T ∷ []) A
      (λ c i. elim (in_insert c (cast_at t a op) x.state.held i) [ inl e ↦ inr (inr (Ack T, refl, (let z = ap (λ (d : Delivered). d.stamp.time) e in omega (arith, z)))) | inr j ↦ inl j ])
  accepted_answered o a (Ack t) = loud_answered p x.state (accepts a t x.state) x.deliveries x.queued [] A (λ c i. inl i)

  taken_answered : (o : Op) (a : ℕ) (f : Frame) → IsAnswered p (after_result x o (taken x.state a f))
  taken_answered o a (Numbered i body) =
      cond_both (i == (peer_at x.state a).expected) (accepted x.state a body) (quiet x.state (got_frames a (peer_at x.state a).expected)) (λ r. IsAnswered p (after_result x o r))
      (λ _. accepted_answered o a body) (λ _. quiet_answered p x.state x.state x.deliveries x.queued A refl)
  taken_answered o a (Got count) = quiet_answered p x.state (acknowledged x.state a count) x.deliveries x.queued A refl

  pub step_answered : (start : Op → ℕ → Start) (e : Step) → IsAnswered p (after_step start x e)
  step_answered start (Call op) = called_answered op (start op (unsettled x.state))
  step_answered start (Take a f) = taken_answered (running_op x.state.running) a f
  step_answered start Tick = quiet_answered p x.state x.state x.deliveries x.queued A refl

abbrev pub AllAnswered : ℕ → Nodes → Type 0
AllAnswered n w = (p : ℕ) → p < n → IsAnswered p (w p)

answered_after : (start : Op → ℕ → Start) (n registers k : ℕ) (w : Nodes) (m : Option (ℕ × Step)) → Inv n registers k w
    → StepKept start n registers k w m → AllAnswered n w → AllAnswered n (nodes_after start w m)
answered_after start n registers k w None I K A = A
answered_after start n registers k w (Some m) I K A = λ q l.
    put_cases (λ (z : Node). IsAnswered q z) w m.0 (after_step start (w m.0) m.1) q
    (λ e. subst (λ r. IsAnswered r (after_step start (w m.0) m.1)) (sym e) (step_answered m.0 (w m.0) (I.local m.0 K.0).me (A m.0 K.0) start m.1))
    (λ _. A q l)

-- where nothing is pending, all was accepted
all_accepted : (n registers k : ℕ) (w : Nodes) → Inv n registers k w → NothingPending n w → (a b : ℕ) → a < n → b < n
    → (a ≡ b → ⊥) → (peer_at (w b).state a).expected ≡ length (w a).queued
all_accepted n registers k w I none a b la lb ne =
    let K = I.link a b la lb ne in
    let x = ap length (sym K.pending ∙ none a b la lb ne) in
    let y = length-drop (peer_at (w a).state b).first (w a).queued in
    let u = K.within in
    let v = K.acked in
    omega (arith, x, y, u, v)

at_most_same : (t u p r : ℕ) → r ≡ p → t ≤ u → AtMost (stamp_at t p) (stamp_at u r)
at_most_same t u p r e l = grind arith

pub deliveries_full : (n registers k : ℕ) (w : Nodes) → Inv n registers k w → AllAnswered n w → NothingPending n w
    → DeliveriesFull n w
deliveries_full n registers k w I A none q c l m =
    let p = c.stamp.process in
    let i = m.1.0 in
    let i_in : i < length (w p).queued = place_within (w p).queued i _ m.1.1 in
    clear_is_delivered n registers k w I q l c m (λ r lr' nr.
    let lr : r < n = let z = (I.local q l).size in omega (arith, z, lr') in
    let ne : r ≡ q → ⊥ = λ e. nr (e ∙ sym (I.local q l).me) in
    let all_r = all_accepted n registers k w I none r q lr l ne in
    elim (cases_eq r p) [
      | inl e ↦
          let z = ap (λ r. length (w r).queued) e in
          let at : slice_get (w r).queued i ≡ Some (Cast c.stamp.time c.op) = subst (λ r. slice_get (w r).queued i ≡ Some (Cast c.stamp.time c.op)) (sym e) m.1.1 in
          let old = (I.link r q lr l ne).past i (Cast c.stamp.time c.op) at (omega (arith, i_in, z, all_r)) in
          at_most_same c.stamp.time (seen_at (w q).state r) p r e old
      | inr other ↦
          let all_p = all_accepted n registers k w I none p r m.0 lr (λ e. other (sym e)) in
          let known : In c ((w r).deliveries ++ (w r).state.held) = (I.known r lr).complete p i c.stamp.time c.op m.0 (let z = count_other (w r) r p (λ e. other (sym e)) in omega (arith, z, all_p, i_in)) m.1.1 in
          let b = (A r lr).later c known (λ e. other (sym e)) in
          let old = (I.link r q lr l ne).past b.0 b.1 b.2 (let z = place_within (w r).queued b.0 b.1 b.2 in omega (arith, z, all_r)) in
          inl (let z = b.3 in omega (arith, z, old))
    ])

pub all_delivered : (start : Op → ℕ → Start) (n registers : ℕ) (events : List Event)
    → let w = (whole start n registers events).nodes in NothingPending n w → DeliveriesFull n w
all_delivered start n registers events none =
    let w = whole start n registers events in
    deliveries_full n registers (length w.accepted) w.nodes (inv_of start n registers events)
    (along start n registers (λ v. AllAnswered n v.nodes) (λ p l. record { later = λ c h. absurd h })
    (λ es e h. let x = whole start n registers es in answered_after start n registers (length x.accepted) x.nodes (move_of n registers x e) (inv_of start n registers es) (run_ok start n registers es e) h)
    events) none
