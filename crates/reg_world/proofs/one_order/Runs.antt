-- Every event of a run keeps what holds of all nodes.
use Rattle.std.proofs.Common.{◌≡◌, ℕ, ◌+◌, ◌-◌, ◌<◌, ◌≤◌, max, [], length, take, drop, Option, Some, None, refl, sym}
use Rattle.std.proofs.Common.{ap, ◌∙◌, subst, inl, inr, arith}
use Rattle.reg_base.specs.declared.limits.TheConstants.{MOST_OPERATIONS, MOST_RESENT}
use Rattle.std.specs.Prelude.{slice_get, ◌==◌, nat_lt, not, ◌&&◌}
use Rattle.std.proofs.lemmas.Bool.{cases_eq, cond_both, eqb-true, eqb-false, ltb-true, and_parts, not-true}
use Rattle.std.proofs.lemmas.List.{length-set, get_or-set_same, get_or-set_other, drop-drop}
use Rattle.reg_base.specs.declared.memory.Op.{Op}
use Rattle.reg_frames.specs.declared.bodies.Body.{Body}
use Rattle.reg_frames.specs.declared.bodies.Body.TheVariants.{Cast, Ack}
use Rattle.reg_frames.specs.declared.bodies.Frame.{Frame}
use Rattle.reg_frames.specs.declared.bodies.Frame.TheVariants.{Numbered, Got}
use Rattle.reg_base.specs.Order.{In}
use Rattle.reg_process.specs.Process.{State, Peer, no_peer, peer_at, seen_at, stamp_at, got_frames, numbered_from, Own}
use Rattle.reg_process.specs.Process.{Held, called, taken, accepted, acknowledged, resent, quiet, no_frames}
use Rattle.reg_world.specs.Nodes.{Nodes, op_in, after_result, after_step, take_step, step_of}
use Rattle.reg_world.proofs.one_order.Worlds.{Inv}
use Rattle.reg_world.proofs.one_order.Acts.{Kept}
use Rattle.reg_world.proofs.one_order.Frames.{got_no_numbered, got_count, numbered_in, resent_no_got, none_to_me}
use Rattle.reg_world.proofs.one_order.Frames.{place_take, place_drop}
use Rattle.std.specs.Option.{is_some}
use Rattle.reg_front.specs.declared.starts.Start.{Start}
use Rattle.reg_front.specs.declared.starts.Start.TheVariants.{Cast as Casts, CastAndAnswer as CastsAndAnswers}
use Rattle.reg_front.specs.declared.starts.Start.TheVariants.{Look as Looks, Hold as Holds}
use Rattle.reg_process.specs.declared.steps.Step.{Step}
use Rattle.reg_process.specs.declared.steps.Step.TheVariants.{Call as CallStep, Tick as TickStep}
use Rattle.reg_process.specs.declared.events.Event.{Event}
use Rattle.reg_process.specs.declared.events.Event.TheVariants.{Call, Take, Tick}
use Rattle.reg_base.specs.Memory.{register_of}
use Rattle.reg_world.proofs.lists.Bodies.{place_in}
use Rattle.reg_world.proofs.one_order.NodeEvents.{quiet_kept}
use Rattle.reg_world.proofs.one_order.Casting.{cast_kept}
use Rattle.reg_world.proofs.one_order.Accepting.{ack_kept, taken_cast_kept}

new_entry : State → ℕ → ℕ → Peer
new_entry s a count = record (peer_at s a) { first = max (peer_at s a).first count; pending = drop (count - (peer_at s a).first) (peer_at s a).pending }

module _ (n registers k : ℕ) (w : Nodes) (I : Inv n registers k w) (p : ℕ) (l : p < n) where
  outboxes : (b : ℕ) → b < n → (p ≡ b → ⊥) → ((peer_at (w p).state b).first ≤ (peer_at (w b).state p).expected) × ((peer_at (w p).state b).pending ≡ drop (peer_at (w p).state b).first (w p).queued)
  outboxes b lb ne = let K = I.link p b l lb ne in (K.acked, K.pending)

  -- what a tick puts again was queued
  again_queued : (b : ℕ) → b < n → (p ≡ b → ⊥) → (i : ℕ) (d : Body) → In (Numbered i d) (resent (w p).state b) → slice_get (w p).queued i ≡ Some d
  again_queued b lb ne i d = cond_both (b == (w p).state.me) [] (numbered_from (peer_at (w p).state b).first (take MOST_RESENT (peer_at (w p).state b).pending)) (λ fs. In (Numbered i d) fs → slice_get (w p).queued i ≡ Some d)
      (λ _ h. absurd h)
      (λ _ h.
      let r = numbered_in (peer_at (w p).state b).first (take MOST_RESENT (peer_at (w p).state b).pending) i d h in
      let at = place_take MOST_RESENT (peer_at (w p).state b).pending r.0 d r.2 in
      place_drop (peer_at (w p).state b).first (w p).queued i r.0 d r.1 (subst (λ q. slice_get q r.0 ≡ Some d) (outboxes b lb ne).1 at))

  -- and so it was put before
  pub resent_is_out : (b : ℕ) → b < n → (f : Frame) → In f (resent (w p).state b) → In f ((w p).wire b)
  resent_is_out b lb (Got c) h = absurd (resent_no_got (w p).state b c h)
  resent_is_out b lb (Numbered i d) h =
      let ne : p ≡ b → ⊥ = λ e. none_to_me (w p).state b (Numbered i d) (sym e ∙ sym (I.local p l).me) h in
      (I.link p b l lb ne).out i d (again_queued b lb ne i d h)

  called_kept : (op : Op) (st : Start) → register_of op < registers → Kept n registers k p w (after_result (w p) op (called (w p).state op st))
  called_kept op Casts reg = cast_kept n registers k w I p l op (Some (Own (stamp_at ((w p).state.clock + 1) (w p).state.me) op)) _ reg
  called_kept op CastsAndAnswers reg = cast_kept n registers k w I p l op None _ reg
  called_kept op Looks reg =
      quiet_kept n registers k w I p l (record (w p).state { calls = (w p).state.calls + 1; running = None }) no_frames _
      (record { me = refl; clock = refl; held = refl; size = refl; seen = λ r. refl; expected = λ r. refl }) outboxes (λ b lb ne i d h. absurd h) (λ a la ne c h. absurd h)
  called_kept op Holds reg =
      quiet_kept n registers k w I p l (record (w p).state { calls = (w p).state.calls + 1; running = Some (Held op) }) no_frames _
      (record { me = refl; clock = refl; held = refl; size = refl; seen = λ r. refl; expected = λ r. refl }) outboxes (λ b lb ne i d h. absurd h) (λ a la ne c h. absurd h)

  tick_kept : (op : Op) → Kept n registers k p w (after_result (w p) op (quiet (w p).state (resent (w p).state)))
  tick_kept op =
      quiet_kept n registers k w I p l (w p).state (resent (w p).state) _
      (record { me = refl; clock = refl; held = refl; size = refl; seen = λ r. refl; expected = λ r. refl }) outboxes
      again_queued (λ a la ne c h. absurd (resent_no_got (w p).state a c h))

  accepted_kept : (o : Op) (a : ℕ) → a < n → (a ≡ p → ⊥) → (body : Body) → slice_get (w a).queued (peer_at (w p).state a).expected ≡ Some body → Kept n registers k p w (after_result (w p) o (accepted (w p).state a body))
  accepted_kept o a la ne (Cast t op) next = taken_cast_kept n registers k w I p l a la ne t op _ next
  accepted_kept o a la ne (Ack t) next = ack_kept n registers k w I p l a la ne t _ next

  got_kept : (op : Op) (a : ℕ) → a < n → (a ≡ p → ⊥) → (count : ℕ) → count ≤ (peer_at (w a).state p).expected → Kept n registers k p w (after_result (w p) op (quiet (acknowledged (w p).state a count) no_frames))
  unfolding new_entry
  got_kept op a la ne count le =
      let s = (w p).state in
      let s' = acknowledged s a count in
      let inp : a < length s.peers = let z = (I.local p l).size in omega (arith, z, la) in
      let here : peer_at s' a ≡ new_entry s a count = get_or-set_same s.peers a (new_entry s a count) no_peer inp in
      let there : (r : ℕ) → (r ≡ a → ⊥) → peer_at s' r ≡ peer_at s r = λ r other. get_or-set_other s.peers a r (new_entry s a count) no_peer other in
      quiet_kept n registers k w I p l s' no_frames _
      (record {
        me = refl;
        clock = refl;
        held = refl;
        size = length-set s.peers a (new_entry s a count);
        seen = λ r. elim (cases_eq r a) [
          | inl e ↦ ap (λ r. seen_at s' r) e ∙ (ap (λ (q : Peer). q.seen) here ∙ ap (λ r. seen_at s r) (sym e))
          | inr other ↦ ap (λ (q : Peer). q.seen) (there r other)
        ];
        expected = λ r. elim (cases_eq r a) [
          | inl e ↦ ap (λ r. (peer_at s' r).expected) e ∙ (ap (λ (q : Peer). q.expected) here ∙ ap (λ r. (peer_at s r).expected) (sym e))
          | inr other ↦ ap (λ (q : Peer). q.expected) (there r other)
        ];
      })
      (λ b lb nb. elim (cases_eq b a) [
        | inl e ↦ subst (λ b. ((peer_at s' b).first ≤ (peer_at (w b).state p).expected) × ((peer_at s' b).pending ≡ drop (peer_at s' b).first (w p).queued)) (sym e)
            (subst (λ (q : Peer). (q.first ≤ (peer_at (w a).state p).expected) × (q.pending ≡ drop q.first (w p).queued)) (sym here)
            (let o = outboxes a la (λ q. ne (sym q)) in
            let m : (peer_at s a).first + (count - (peer_at s a).first) ≡ max (peer_at s a).first count = omega arith in (
              (let x = o.0 in omega (arith, x, le)),
              ap (drop (count - (peer_at s a).first)) o.1 ∙ (drop-drop (count - (peer_at s a).first) (peer_at s a).first (w p).queued ∙ ap (λ f. drop f (w p).queued) m),
            )))
        | inr other ↦ subst (λ (q : Peer). (q.first ≤ (peer_at (w b).state p).expected) × (q.pending ≡ drop q.first (w p).queued)) (sym (there b other)) (outboxes b lb nb)
      ])
      (λ b lb nb i d h. absurd h) (λ b lb nb c h. absurd h)

  taken_kept : (op : Op) (a : ℕ) → a < n → (a ≡ p → ⊥) → (f : Frame) → In f ((w a).wire p) → Kept n registers k p w (after_result (w p) op (taken (w p).state a f))
  taken_kept op a la ne (Numbered i body) h =
      let at = (I.link a p la l ne).numbered i body h in
      cond_both (i == (peer_at (w p).state a).expected) (accepted (w p).state a body) (quiet (w p).state (got_frames a (peer_at (w p).state a).expected)) (λ r. Kept n registers k p w (after_result (w p) op r))
      (λ e. accepted_kept op a la ne body (ap (slice_get (w a).queued) (sym (eqb-true i _ e)) ∙ at))
      (λ e. quiet_kept n registers k w I p l (w p).state (got_frames a (peer_at (w p).state a).expected) _
      (record { me = refl; clock = refl; held = refl; size = refl; seen = λ r. refl; expected = λ r. refl }) outboxes
      (λ b lb nb j d m. absurd (got_no_numbered a _ b j d m))
      (λ r lr nr c m. let z = got_count a _ r c m in let v = ap (λ r. (peer_at (w p).state r).expected) z.1 in let u = z.0 in omega (arith, u, v)))
  taken_kept op a la ne (Got count) h = got_kept op a la ne count ((I.link p a l la (λ q. ne (sym q))).counts count h)

-- what a step of an accepted event owes
abbrev pub StepKept : (Op → ℕ → Start) → ℕ → ℕ → ℕ → Nodes → Option (ℕ × Step) → Type 0
StepKept start n registers k w None = Unit {0}
StepKept start n registers k w (Some m) = (m.0 < n) × Kept n registers k m.0 w (after_step start (w m.0) m.1)

take_ok : (start : Op → ℕ → Start) (n registers k : ℕ) (w : Nodes) (a p : ℕ) (o : Option Frame) → Inv n registers k w
    → a < n → p < n → (a ≡ p → ⊥) → ((f : Frame) → o ≡ Some f → In f ((w a).wire p))
    → StepKept start n registers k w (take_step a p o)
take_ok start n registers k w a p None I la l ne h = tt
take_ok start n registers k w a p (Some f) I la l ne h = (l, taken_kept n registers k w I p l _ a la ne f (h f refl))

pub step_ok : (start : Op → ℕ → Start) (n registers k : ℕ) (w : Nodes) (e : Event) → Inv n registers k w
    → StepKept start n registers k w (step_of n registers w e)
step_ok start n registers k w (Call p op) I =
    cond_both (nat_lt p n && (not (is_some (w p).state.running) && (nat_lt (register_of op) registers && nat_lt (w p).state.calls MOST_OPERATIONS))) (Some (p, CallStep op)) None (StepKept start n registers k w)
    (λ e.
    let a = and_parts _ _ e in
    let b = and_parts _ _ a.1 in
    let c = and_parts _ _ b.1 in
    let l = ltb-true p n a.0 in
    (l, called_kept n registers k w I p l op _ (ltb-true (register_of op) registers c.0)))
    (λ e. tt)
step_ok start n registers k w (Take a p number) I =
    cond_both (nat_lt a n && (nat_lt p n && not (a == p))) (take_step a p (slice_get ((w a).wire p) number)) None (StepKept start n registers k w)
    (λ e.
    let x = and_parts _ _ e in
    let y = and_parts _ _ x.1 in
    take_ok start n registers k w a p (slice_get ((w a).wire p) number) I (ltb-true a n x.0) (ltb-true p n y.0) (eqb-false a p (not-true _ y.1)) (λ f h. place_in ((w a).wire p) number f h))
    (λ e. tt)
step_ok start n registers k w (Tick p) I =
    cond_both (nat_lt p n) (Some (p, TickStep)) None (StepKept start n registers k w)
    (λ e. let l = ltb-true p n e in (l, tick_kept n registers k w I p l (op_in (w p).state TickStep)))
    (λ e. tt)
