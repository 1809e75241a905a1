-- A step that an event makes is refused by no fault of its process.
use Rattle.std.proofs.Common.{◌≡◌, ℕ, ◌+◌, ◌<◌, ◌≤◌, max, true, false, not, cond, List, [], ◌∷◌, length, replicate}
use Rattle.std.proofs.Common.{Option, Some, None, refl, sym, ap, ◌∙◌, subst, arith}
use Rattle.std.specs.Prelude.{nat_lt, nat_le, ◌==◌, ◌&&◌, ◌||◌, slice_get}
use Rattle.std.specs.Option.{is_some}
use Rattle.std.proofs.lemmas.Bool.{cond_both, ltb-true, leb-true, lt-leb, eqb-true, eq-eqb, and_parts}
use Rattle.std.proofs.lemmas.List.{length-replicate}
use Rattle.std.proofs.lemmas.Option.{same_Some, none-some}
use Rattle.reg_base.specs.declared.limits.TheConstants.{LAST_TIME, MOST_OPERATIONS}
use Rattle.reg_base.specs.declared.memory.Op.{Op}
use Rattle.reg_base.proofs.Operations.{length-after}
use Rattle.reg_base.specs.Memory.{Memory, after, memory_after, register_of}
use Rattle.reg_base.specs.Order.{In}
use Rattle.reg_frames.specs.declared.bodies.Body.{Body}
use Rattle.reg_frames.specs.declared.bodies.Body.TheVariants.{Cast, Ack}
use Rattle.reg_frames.specs.declared.bodies.Frame.{Frame}
use Rattle.reg_frames.specs.declared.bodies.Frame.TheVariants.{Numbered, Got}
use Rattle.reg_front.specs.declared.starts.Start.{Start}
use Rattle.reg_front.specs.declared.starts.Start.TheVariants.{Cast as Casts, CastAndAnswer as CastsAndAnswers}
use Rattle.reg_front.specs.declared.starts.Start.TheVariants.{Look as Looks, Hold as Holds}
use Rattle.reg_front.specs.Fronts.{KeepsLaws}
use Rattle.reg_process.specs.declared.steps.Step.{Step}
use Rattle.reg_process.specs.declared.steps.Step.TheVariants.{Call as CallStep, Take as TakeStep, Tick as TickStep}
use Rattle.reg_process.specs.Process.{State, Running, peer_at, next_of, seen_at, time_of, unsettled, ops_of}
use Rattle.reg_process.specs.declared.faults.ProcessFault.TheVariants.{NoProcess, NoRegister, TooManyOperations, Ahead}
use Rattle.reg_process.specs.declared.faults.ProcessFault.TheVariants.{Stale, ClockFull}
use Rattle.reg_process.specs.Delivery.{first_of}
use Rattle.reg_process.specs.Faults.{full_at, early_fault, call_fault, is_out, early_body, full_by, body_fault}
use Rattle.reg_process.specs.Faults.{frame_fault, take_fault, step_fault}
use Rattle.reg_process.specs.declared.events.Event.{Event}
use Rattle.reg_process.specs.declared.events.Event.TheVariants.{Call, Take, Tick}
use Rattle.reg_world.specs.Nodes.{step_of, take_step}
use Rattle.reg_world.specs.Laws.{IsAhead, IsStale, IsFull, names_register}
use Rattle.reg_world.specs.World.{World, move_of, whole}
use Rattle.reg_world.specs.Members.{MayAct, listed}
use Rattle.reg_world.specs.WorldParts.{standing_of}
use Rattle.reg_world.proofs.lists.Bodies.{place_in}
use Rattle.reg_world.proofs.one_order.Wholes.{whole_replicas}
use Rattle.reg_world.proofs.one_order.Allowed.{Allowed, allowed}
use Rattle.reg_world.proofs.code.Sending.{length-listed}
use Rattle.reg_world.proofs.code.Found.{differ_false}
use Rattle.reg_world.proofs.code.Tallied.{at_or}
use Rattle.reg_world.proofs.code.Telling.{at_listed}
use Rattle.reg_world.proofs.run.Along.{move_is}
use Rattle.reg_world.proofs.one_order.NodeLaws.{inv_of, no_refusal}
use Rattle.reg_world.proofs.one_order.Runs.{resent_is_out}

length-memory : (ops : List Op) (m : Memory) → length (memory_after ops m) ≡ length m
length-memory [] m = refl
length-memory (op ∷ ops) m = length-memory ops (after op m) ∙ length-after op m

no_full : (clock : ℕ) (st : Start) → clock + 1 ≤ LAST_TIME → full_at clock st ≡ None
no_full clock Casts h = ap (λ b. cond b (Some ClockFull) None) (lt-leb LAST_TIME clock (omega (arith, h)))
no_full clock CastsAndAnswers h = ap (λ b. cond b (Some ClockFull) None) (lt-leb LAST_TIME clock (omega (arith, h)))
no_full clock Looks h = refl
no_full clock Holds h = refl

no_early : (s : State) (op : Op) (o : Option Running) → o ≡ None → register_of op < length s.copy
    → s.calls < MOST_OPERATIONS → early_fault s op o ≡ None
no_early s op (Some r) e l k = absurd (none-some r (sym e))
no_early s op None e l k =
    ap (λ b. cond b (Some NoRegister) (cond (nat_le MOST_OPERATIONS s.calls) (Some TooManyOperations) None)) (lt-leb (length s.copy) (register_of op) l)
    ∙ ap (λ b. cond b (Some TooManyOperations) None) (lt-leb MOST_OPERATIONS s.calls k)

-- what is known of a process, before a step
pub record Sound (n registers p : ℕ) (s : State) : Type 0 where
  pub me : s.me ≡ p
  pub size : length s.peers ≡ n
  pub copy : length s.copy ≡ registers

no_body : (n registers p from i : ℕ) (s : State) (body : Body) → Sound n registers p s → names_register registers body
    → (IsStale s from (Numbered i body) → ⊥) → (IsFull s from (Numbered i body) → ⊥) → i ≡ (peer_at s from).expected
    → body_fault s from body ≡ None
no_body n registers p from i s body S named stale full here =
    ap (λ o. first_of o (full_by s body)) (early body named) ∙ not_full
  where
    in_range : (body : Body) → names_register registers body → is_out s body ≡ false
    in_range (Cast t op) l = (let c = S.copy in lt-leb (length s.copy) (register_of op) (omega (arith, l, c)))
    in_range (Ack t) l = refl

    early : (b : Body) → names_register registers b → early_body s from body ≡ None
    early b l =
        ap (λ b. cond b (Some NoRegister) (cond (nat_le (time_of body) (seen_at s from)) (Some Stale) None)) (in_range body named)
        ∙ cond_both (nat_le (time_of body) (seen_at s from)) (Some Stale) None (λ o. o ≡ None) (λ e. absurd (stale (here, leb-true (time_of body) (seen_at s from) e))) (λ e. refl)

    not_full : full_by s body ≡ None
    not_full = cond_both (nat_le LAST_TIME (max s.clock (time_of body))) (Some ClockFull) None (λ o. o ≡ None)
        (λ e. let l = leb-true LAST_TIME (max s.clock (time_of body)) e in absurd (full (here, omega (arith, l)))) (λ e. refl)

no_frame : (n registers p from : ℕ) (s : State) (f : Frame) → Sound n registers p s
    → ((i : ℕ) (body : Body) → f ≡ Numbered i body → names_register registers body) → (IsAhead s from f → ⊥)
    → (IsStale s from f → ⊥) → (IsFull s from f → ⊥) → frame_fault s from f ≡ None
no_frame n registers p from s (Numbered i body) S named ahead stale full =
    cond_both (i == (peer_at s from).expected) (body_fault s from body) None (λ o. o ≡ None)
    (λ e. no_body n registers p from i s body S (named i body refl) stale full (eqb-true i (peer_at s from).expected e)) (λ e. refl)
no_frame n registers p from s (Got count) S named ahead stale full =
    cond_both (nat_lt (next_of (peer_at s from)) count) (Some Ahead) None (λ o. o ≡ None) (λ e. absurd (ahead (ltb-true (next_of (peer_at s from)) count e))) (λ e. refl)

no_take : (n registers p from : ℕ) (s : State) (f : Frame) → Sound n registers p s → from < n → (from ≡ p → ⊥)
    → frame_fault s from f ≡ None → take_fault s from f ≡ None
no_take n registers p from s f S l ne none =
    let far : nat_le (length s.peers) from ≡ false = (let z = S.size in lt-leb (length s.peers) from (omega (arith, l, z))) in
    let other : (from == s.me) ≡ false = differ_false from s.me (λ e. ne (e ∙ S.me)) in
    ap (λ b. cond (b || (from == s.me)) (Some NoProcess) (frame_fault s from f)) far ∙ (ap (λ b. cond b (Some NoProcess) (frame_fault s from f)) other ∙ none)

-- what a take of a run is
take_told : (from to : ℕ) (o : Option Frame) (p : ℕ) (st : Step) → take_step from to o ≡ Some (p, st)
    → (f : Frame) × (o ≡ Some f) × (p ≡ to) × (st ≡ TakeStep from f)
take_told from to None p st e = absurd (none-some (p, st) e)
take_told from to (Some f) p st e = let q = same_Some (to, TakeStep from f) (p, st) e in (f, refl, ap (λ (z : ℕ × Step). z.0) (sym q), ap (λ (z : ℕ × Step). z.1) (sym q))

module _ (start : Op → ℕ → Start) (n registers : ℕ) (laws : KeepsLaws start) (events : List Event) where
  abbrev w : World
  w = whole start n registers events

  pub sound : (p : ℕ) → p < n → Sound n registers p (w.nodes p).state
  sound p l =
      let L = (inv_of start n registers events).local p l in
      let R = whole_replicas start n registers events laws p l in
      record {
        me = L.me;
        size = L.size;
        copy = ap length R.copy ∙ (length-memory (ops_of (w.nodes p).deliveries) (replicate registers 0) ∙ length-replicate registers 0);
      }

  no_step_fault : (e : Event) (p : ℕ) (st : Step) → step_of n registers w.nodes e ≡ Some (p, st) → step_fault start (w.nodes p).state st ≡ None
  no_step_fault (Call q op) p st e =
      cond_both (nat_lt q n && (not (is_some (w.nodes q).state.running) && (nat_lt (register_of op) registers && nat_lt (w.nodes q).state.calls MOST_OPERATIONS))) (Some (q, CallStep op)) None (λ o. o ≡ Some (p, st) → step_fault start (w.nodes p).state st ≡ None)
      (λ t is.
      let a = and_parts _ _ t in
      let b = and_parts _ _ a.1 in
      let c = and_parts _ _ b.1 in
      let same = same_Some (q, CallStep op) (p, st) is in
      let l = ltb-true q n a.0 in
      let S = sound q l in
      let s = (w.nodes q).state in
      let fits = (no_refusal start n registers events).call_fits q l in
      let early = no_early s op s.running (idle s.running b.0) (let x = ltb-true (register_of op) registers c.0 in let y = S.copy in omega (arith, x, y)) (ltb-true s.calls MOST_OPERATIONS c.1) in
      let none : call_fault start s op ≡ None = ap (λ o. first_of o (full_at s.clock (start op (unsettled s)))) early ∙ no_full s.clock (start op (unsettled s)) fits in
      subst (λ (z : ℕ × Step). step_fault start (w.nodes z.0).state z.1 ≡ None) same none)
      (λ t is. absurd (none-some (p, st) is))
      e
    where
      idle : (o : Option Running) → not (is_some o) ≡ true → o ≡ None
      idle None h = refl
      idle (Some r) h = absurd (let bad : ⊥ = cc in bad)
  no_step_fault (Take from to number) p st e =
      cond_both (nat_lt from n && (nat_lt to n && not (from == to))) (take_step from to (slice_get ((w.nodes from).wire to) number)) None (λ o. o ≡ Some (p, st) → step_fault start (w.nodes p).state st ≡ None)
      (λ t is.
      let a = and_parts _ _ t in
      let b = and_parts _ _ a.1 in
      let told = take_told from to (slice_get ((w.nodes from).wire to) number) p st is in
      let lf = ltb-true from n a.0 in
      let lt = ltb-true to n b.0 in
      let ne = λ (q : from ≡ to). apart from to b.1 q in
      let N = no_refusal start n registers events in
      let here = place_in ((w.nodes from).wire to) number told.0 told.1 in
      let s = (w.nodes to).state in
      let frame = no_frame n registers to from s told.0 (sound to lt) (λ i body q. N.in_range from to i body lf lt ne (subst (λ z. In z ((w.nodes from).wire to)) q here)) (N.not_ahead from to told.0 lf lt ne here) (N.not_stale from to told.0 lf lt ne here) (N.not_full from to told.0 lf lt ne here) in
      let none : take_fault s from told.0 ≡ None = no_take n registers to from s told.0 (sound to lt) lf ne frame in
      subst (λ z. step_fault start (w.nodes z).state st ≡ None) (sym told.2) (subst (λ z. step_fault start s z ≡ None) (sym told.3) none))
      (λ t is. absurd (none-some (p, st) is))
      e
    where
      apart : (a b : ℕ) → not (a == b) ≡ true → a ≡ b → ⊥
      apart a b h q = let t = eq-eqb a b q in let bad : false ≡ true = sym (ap not t) ∙ h in cc
  no_step_fault (Tick q) p st e =
      cond_both (nat_lt q n) (Some (q, TickStep)) None (λ o. o ≡ Some (p, st) → step_fault start (w.nodes p).state st ≡ None)
      (λ t is. subst (λ (z : ℕ × Step). step_fault start (w.nodes z.0).state z.1 ≡ None) (same_Some (q, TickStep) (p, st) is) refl)
      (λ t is. absurd (none-some (p, st) is))
      e

  pub may_act : (e : Event) (p : ℕ) (st : Step) → move_of n registers w e ≡ Some (p, st)
      → MayAct start (standing_of n w p) st
  may_act e p st move =
      let m = move_is n registers w e (p, st) move in
      let A = subst (Allowed n registers w.nodes) m.1 (allowed n registers w.nodes e) in
      record {
        stands = refl;
        none = no_step_fault e p st m.1;
        wires = length-listed (w.nodes p).wire n ∙ sym (sound p A.0).size;
        out = λ to l f i.
            let to_n : to < n = let z = (sound p A.0).size in omega (arith, l, z) in
            subst (In f) (sym (at_or (listed (w.nodes p).wire n) to ((w.nodes p).wire to) [] (at_listed (w.nodes p).wire n to to_n)))
            (resent_is_out n registers _ w.nodes (inv_of start n registers events) p A.0 to to_n f i);
      }
