-- A reply stands at its own cast, unless the front end gives it before the delivery.
use Rattle.std.proofs.Common.{◌≡◌, ℕ, ◌+◌, ◌-◌, ◌<◌, ◌⊎◌, max, List, [], ◌∷◌, ◌++◌, length, take, Option, Some, None}
use Rattle.std.proofs.Common.{refl, sym, ap, ◌∙◌, subst, inl, inr, arith}
use Rattle.std.specs.Prelude.{◌==◌, ◌&&◌, slice_get}
use Rattle.std.specs.List.{list_any}
use Rattle.std.proofs.lemmas.Bool.{cond_both}
use Rattle.std.proofs.lemmas.List.{append-nil, take-append-le, take_at}
use Rattle.std.proofs.lemmas.Option.{same_Some, none-some}
use Rattle.reg_base.specs.declared.stamps.Stamp.{Stamp}
use Rattle.reg_base.specs.declared.memory.Op.{Op}
use Rattle.reg_base.specs.declared.stamps.Delivered.{Delivered}
use Rattle.reg_base.specs.Order.{In, Rising, insert}
use Rattle.reg_frames.specs.declared.bodies.Body.{Body}
use Rattle.reg_frames.specs.declared.bodies.Body.TheVariants.{Cast, Ack}
use Rattle.reg_frames.specs.declared.bodies.Frame.{Frame}
use Rattle.reg_frames.specs.declared.bodies.Frame.TheVariants.{Numbered, Got}
use Rattle.reg_front.specs.declared.starts.Start.{Start}
use Rattle.reg_front.specs.declared.starts.Start.TheVariants.{Cast as Casts, CastAndAnswer as CastsAndAnswers}
use Rattle.reg_front.specs.declared.starts.Start.TheVariants.{Look as Looks, Hold as Holds}
use Rattle.reg_front.specs.Fronts.{KeepsLaws}
use Rattle.reg_process.specs.declared.steps.Reply.{Reply}
use Rattle.reg_process.specs.declared.steps.Step.{Step}
use Rattle.reg_process.specs.declared.steps.Step.TheVariants.{Call, Take, Tick}
use Rattle.reg_process.specs.Process.{State, Outcome, Running, Own, Held, cast_at, clear_casts, casts_before}
use Rattle.reg_process.specs.Process.{reply_after, reply_of, taken, accepted, accepts, queues, quiet, got_frames}
use Rattle.reg_process.specs.Process.{peer_at, step, called, cast_made, stamp_at, unsettled}
use Rattle.reg_process.specs.declared.events.Event.{Event}
use Rattle.reg_world.specs.Nodes.{Node, put, op_in, after_step}
use Rattle.reg_world.specs.NodeParts.{nodes_after}
use Rattle.reg_world.proofs.run.Traced.{Called, Answered, Past, Trace, cast_of, called_in, answered_in, past_after}
use Rattle.reg_world.proofs.run.Traced.{pasts_after, after, traced}
use Rattle.reg_base.proofs.Lists.{in_cases, insert_new}
use Rattle.reg_world.proofs.lists.Bodies.{place_first, place_last}
use Rattle.reg_world.proofs.one_order.Acts.{put_cases}
use Rattle.reg_world.proofs.one_order.Runs.{StepKept}
use Rattle.reg_world.proofs.one_order.NodeLaws.{run_ok}
use Rattle.reg_world.proofs.one_order.Firsts.{rising_end}
use Rattle.reg_world.proofs.one_order.Wholes.{Replicas, whole_replicas}
use Rattle.reg_world.proofs.one_order.Settled.{IsRunning, Runs, longer, whole_runs}
use Rattle.reg_world.proofs.one_memory.History.{PastsOk, whole_pasts}
use Rattle.reg_world.proofs.one_memory.Standing.{RunsAs, PastOk, own_placed}
use Rattle.reg_world.proofs.one_memory.Turns.{answered_one}
use Rattle.reg_world.proofs.one_order.Allowed.{calls_made}
use Rattle.reg_checkers.specs.declared.entries.Entry.TheVariants.{Called as HistoryCalled}
use Rattle.reg_world.specs.World.{World, op_id, move_of, moved, whole}
use Rattle.reg_world.proofs.lists.Members.{from_end}
use Rattle.reg_world.proofs.run.Along.{one_more, traced_more}
use Rattle.reg_world.proofs.run.Begun.{again}
use Rattle.reg_world.proofs.one_memory.Kept.{kept}

reply_placed : (s : State) (deliveries : List Delivered) → s.delivered ≡ length deliveries → Rising (clear_casts s)
    → (running : Option Running) (k : ℕ) (calls : List Called) (r : Reply) (d : Called) (stamp : Stamp) → Runs s running
    → RunsAs k calls running → reply_of s (clear_casts s) running ≡ Some r → slice_get calls (k - 1) ≡ Some d
    → d.cast ≡ Some stamp → slice_get (deliveries ++ clear_casts s) r.place ≡ Some (cast_of stamp d.op)
reply_placed s deliveries count rising None k calls r d stamp runs last e at c = absurd (let bad : ⊥ = cc in bad)
reply_placed s deliveries count rising (Some (Own st op)) k calls r d stamp runs last e at c =
    let same : d ≡ record { op = op; at = last.1.0; cast = Some st } = same_Some _ _ (sym at ∙ last.1.1) in
    let is : cast_of st op ≡ cast_of stamp d.op = (λ i. cast_of (same_Some st stamp (sym (ap (λ (z : Called). z.cast) same) ∙ c) i) (sym (ap (λ (z : Called). z.op) same) i)) in
    cond_both (list_any (λ c. (c.stamp.time == st.time) && (c.stamp.process == st.process)) (clear_casts s)) (Some (reply_after s (casts_before st (clear_casts s)) op)) None (λ o. o ≡ Some r → slice_get (deliveries ++ clear_casts s) r.place ≡ Some (cast_of stamp d.op))
    (λ t q. subst (λ (z : Reply). slice_get (deliveries ++ clear_casts s) z.place ≡ Some (cast_of stamp d.op)) (same_Some _ _ q) (own_placed s deliveries count rising st op runs t ∙ ap Some is))
    (λ _ q. absurd (none-some r q)) e
reply_placed s deliveries count rising (Some (Held op)) k calls r d stamp runs last e at c =
    let same : d ≡ record { op = op; at = last.1.0; cast = None } = same_Some _ _ (sym at ∙ last.1.1) in
    absurd (none-some stamp (sym (ap (λ (z : Called). z.cast) same) ∙ c))

module _ (p at : ℕ) (x : Node) (h : Past) (W : Runs x.state x.state.running) (P : PastOk p x.state x.deliveries h) (count : x.state.delivered ≡ length x.deliveries) where
  abbrev OwnAt : (Op → ℕ → Start) → Step → State × Outcome → Type 0
  OwnAt start e r = (y : Reply) (d : Called) (stamp : Stamp) → r.1.reply ≡ Some y → slice_get (h.calls ++ called_in at e r.1.cast) (r.0.calls - 1) ≡ Some d → d.cast ≡ Some stamp → ((d.at ≡ at) × (start d.op (unsettled x.state) ≡ CastsAndAnswers)) ⊎ (slice_get (x.deliveries ++ r.1.delivered) y.place ≡ Some (cast_of stamp d.op))

  loud_at : (s1 : State) → s1.calls ≡ x.state.calls → s1.delivered ≡ x.state.delivered → Rising (x.deliveries ++ clear_casts s1) → Runs s1 x.state.running → (y : Reply) (d : Called) (stamp : Stamp) → reply_of s1 (clear_casts s1) x.state.running ≡ Some y → slice_get (h.calls ++ []) (s1.calls - 1) ≡ Some d → d.cast ≡ Some stamp → slice_get (x.deliveries ++ clear_casts s1) y.place ≡ Some (cast_of stamp d.op)
  loud_at s1 k l rises runs y d stamp e q c =
      reply_placed s1 x.deliveries (l ∙ count) (rising_end x.deliveries (clear_casts s1) rises) x.state.running x.state.calls h.calls y d stamp runs P.running e
      (ap (λ m. slice_get h.calls (m - 1)) (sym k) ∙ (ap (λ l. slice_get l (s1.calls - 1)) (sym (append-nil h.calls)) ∙ q)) c

  accepted_at : (start : Op → ℕ → Start) (a : ℕ) (body : Body) (f : Frame) → Rising (x.deliveries ++ (accepted x.state a body).1.delivered) → OwnAt start (Take a f) (accepted x.state a body)
  accepted_at start a (Cast t op) f rises y d stamp e q c =
      let T = max x.state.clock t + 1 in
      let s1 : State = record (queues T (Ack T) (accepts a t x.state)) { held = insert (cast_at t a op) x.state.held } in
      inr (loud_at s1 refl refl rises (longer x W s1 (cast_at t a op) x.state.running refl refl W) y d stamp e q c)
  accepted_at start a (Ack t) f rises y d stamp e q c = inr (loud_at (accepts a t x.state) refl refl rises W y d stamp e q c)

  taken_at : (start : Op → ℕ → Start) (a : ℕ) (f : Frame) → Rising (x.deliveries ++ (taken x.state a f).1.delivered) → OwnAt start (Take a f) (taken x.state a f)
  taken_at start a (Numbered i body) =
      cond_both (i == (peer_at x.state a).expected) (accepted x.state a body) (quiet x.state (got_frames a (peer_at x.state a).expected)) (λ r. Rising (x.deliveries ++ r.1.delivered) → OwnAt start (Take a (Numbered i body)) r)
      (λ _ rises. accepted_at start a body (Numbered i body) rises) (λ _ rises y d stamp e q c. absurd (none-some y e))
  taken_at start a (Got count) = λ rises y d stamp e q c. absurd (none-some y e)

  -- a call, by how it starts
  called_at : (start : Op → ℕ → Start) (op : Op) (s : Start) → start op (unsettled x.state) ≡ s → Rising (x.deliveries ++ (called x.state op s).1.delivered) → (y : Reply) (d : Called) (stamp : Stamp) → (called x.state op s).1.reply ≡ Some y → d ≡ record { op = op; at = at; cast = (called x.state op s).1.cast } → d.cast ≡ Some stamp → ((d.at ≡ at) × (start d.op (unsettled x.state) ≡ CastsAndAnswers)) ⊎ (slice_get (x.deliveries ++ (called x.state op s).1.delivered) y.place ≡ Some (cast_of stamp d.op))
  called_at start op Casts is rises y d stamp e same c =
      let st = stamp_at (x.state.clock + 1) x.state.me in
      let s1 : State = cast_made x.state op (Some (Own st op)) in
      let own = cast_of st op in
      let last : RunsAs 1 (d ∷ []) (Some (Own st op)) = (omega arith, (at, ap Some same)) in
      inr (reply_placed s1 x.deliveries count (rising_end x.deliveries (clear_casts s1) rises) (Some (Own st op)) 1 (d ∷ []) y d stamp (insert_new own own x.state.held refl) last e refl c)
  called_at start op CastsAndAnswers is rises y d stamp e same c =
      inl (ap (λ (z : Called). z.at) same, subst (λ o. start o (unsettled x.state) ≡ CastsAndAnswers) (sym (ap (λ (z : Called). z.op) same)) is)
  called_at start op Looks is rises y d stamp e same c = absurd (none-some stamp (sym (ap (λ (z : Called). z.cast) same) ∙ c))
  called_at start op Holds is rises y d stamp e same c = absurd (none-some stamp (sym (ap (λ (z : Called). z.cast) same) ∙ c))

  pub step_at : (start : Op → ℕ → Start) (e : Step) → Rising (after_step start x e).deliveries
      → OwnAt start e (step start x.state e)
  step_at start (Call op) = λ rises y d stamp e q c.
      let r = step start x.state (Call op) in
      let new : Called = record { op = op; at = at; cast = r.1.cast } in
      let made = calls_made start x.state (Call op) in
      let number : r.0.calls - 1 ≡ length h.calls = (let k = P.count in omega (arith, k, made)) in
      let same : d ≡ new = same_Some d new (sym q ∙ (ap (slice_get (h.calls ++ new ∷ [])) number ∙ place_last h.calls new)) in
      called_at start op (start op (unsettled x.state)) refl rises y d stamp e same c
  step_at start (Take a f) = taken_at start a f
  step_at start Tick = λ rises y d stamp e q c. absurd (none-some y e)

-- where each answer to a call with a cast stands, the calls being answered first as First says of their events and
-- operations
abbrev pub AreSeated : (ℕ → Op → Type 0) → List Delivered → Past → Type 0
AreSeated First deliveries h = (a : Answered) (d : Called) (stamp : Stamp) → In a h.answers → slice_get h.calls a.number ≡ Some d → d.cast ≡ Some stamp → ((a.at ≡ d.at) × First d.at d.op) ⊎ (slice_get deliveries a.reply.place ≡ Some (cast_of stamp d.op))

seated_here : (start : Op → ℕ → Start) (Old New : ℕ → Op → Type 0) (p at : ℕ) (x : Node) (h : Past) (e : Step)
    → Runs x.state x.state.running → PastOk p x.state x.deliveries h → x.state.delivered ≡ length x.deliveries
    → Rising (after_step start x e).deliveries
    → ((number : ℕ) (d : Called) → slice_get h.calls number ≡ Some d → Old d.at d.op → New d.at d.op) → ((op : Op) → start op (unsettled x.state) ≡ CastsAndAnswers → New at op)
    → AreSeated Old x.deliveries h → AreSeated New (after_step start x e).deliveries (past_after at x.state h e (step start x.state e))
seated_here start Old New p at x h e W P count rises stays comes A a d stamp i q c =
    let r = step start x.state e in
    elim (in_cases a h.answers (answered_in at (r.0.calls - 1) (op_in x.state e) r.1.reply) i) [
      | inl j ↦
          let ok = P.answers a j in
          let old = place_first h.calls (called_in at e r.1.cast) a.number ok.1.0 ok.1.1 in
          let same : ok.1.0 ≡ d = same_Some ok.1.0 d (sym old ∙ q) in
          let here : slice_get h.calls a.number ≡ Some d = ok.1.1 ∙ ap Some same in
          let z = A a d stamp j here c in
          elim z [ inl y ↦ inl (y.0, stays a.number d here y.1) | inr y ↦ inr (place_first x.deliveries r.1.delivered a.reply.place (cast_of stamp d.op) y) ]
      | inr j ↦
          let o = answered_one at (r.0.calls - 1) (op_in x.state e) r.1.reply a j in
          let number : a.number ≡ r.0.calls - 1 = ap (λ (z : Answered). z.number) o.2 in
          let place : a.reply.place ≡ o.0.place = ap (λ (z : Answered). z.reply.place) o.2 in
          let z = step_at p at x h W P count start e rises o.0 d stamp o.1 (ap (slice_get (h.calls ++ called_in at e r.1.cast)) (sym number) ∙ q) c in
          elim z [ inl y ↦ inl (ap (λ (z : Answered). z.at) o.2 ∙ sym y.0, subst (λ k. New k d.op) (sym y.0) (comes d.op y.1)) | inr y ↦ inr (ap (slice_get (x.deliveries ++ r.1.delivered)) place ∙ y) ]
    ]

seated_step : (start : Op → ℕ → Start) (Old New : ℕ → ℕ → Op → Type 0) (n registers k : ℕ) (w : Trace) (m : ℕ × Step)
    → StepKept start n registers k w.nodes (Some m) → Replicas n registers w.nodes → ((p : ℕ) → IsRunning (w.nodes p))
    → PastsOk n w
    → ((q number : ℕ) (d : Called) → q < n → slice_get (w.pasts q).calls number ≡ Some d → Old q d.at d.op → New q d.at d.op) → ((op : Op) → start op (unsettled (w.nodes m.0).state) ≡ CastsAndAnswers → New m.0 w.count op)
    → ((q : ℕ) → q < n → AreSeated (Old q) (w.nodes q).deliveries (w.pasts q))
    → (q : ℕ) → q < n → AreSeated (New q) (nodes_after start w.nodes (Some m) q).deliveries (pasts_after start w (Some m) q)
seated_step start Old New n registers k w m K R W P stays comes A q l =
    let x = w.nodes m.0 in
    let y = after_step start x m.1 in
    let h' = past_after w.count x.state (w.pasts m.0) m.1 (step start x.state m.1) in
    put_cases (λ (z : Node). AreSeated (New q) z.deliveries (put w.pasts m.0 h' q)) w.nodes m.0 y q
    (λ e. put_cases (λ (g : Past). AreSeated (New q) y.deliveries g) w.pasts m.0 h' q
    (λ _. subst (λ z. AreSeated (New z) y.deliveries h') (sym e)
    (seated_here start (Old m.0) (New m.0) m.0 w.count x (w.pasts m.0) m.1 (W m.0) (P m.0 K.0).0 (R m.0 K.0).count K.1.local.deliveries_rise (λ number d. stays m.0 number d K.0) comes (A m.0 K.0)))
    (λ ne. absurd (ne e)))
    (λ ne. put_cases (λ (g : Past). AreSeated (New q) (w.nodes q).deliveries g) w.pasts m.0 h' q (λ e. absurd (ne e))
    (λ _ a d stamp i at c. elim (A q l a d stamp i at c) [ inl z ↦ inl (z.0, stays q a.number d l at z.1) | inr z ↦ inr z ]))

module _ (start : Op → ℕ → Start) (n registers : ℕ) (laws : KeepsLaws start) where
  -- the front end answers the operation first, by the state of its process before event at
  abbrev pub First : World → ℕ → ℕ → Op → Type 0
  First w p at op = start op (unsettled ((whole start n registers (take at w.accepted)).nodes p).state) ≡ CastsAndAnswers

  abbrev pub AllSeated : World → Trace → Type 0
  AllSeated w v = (p : ℕ) → p < n → AreSeated (First w p) (v.nodes p).deliveries (v.pasts p)

  seated_move : (es : List Event) (e : Event) (m : Option (ℕ × Step)) → let w = whole start n registers es in let v = traced start n registers es in
      move_of n registers w e ≡ m → StepKept start n registers v.count v.nodes m → AllSeated w v → AllSeated (moved start w e m) (after start v m)
  seated_move es e None is K A = A
  seated_move es e (Some m) is K A =
      let w = whole start n registers es in
      let v = traced start n registers es in
      let J = (kept start n registers laws es).joined in
      seated_step start (First w) (First (moved start w e (Some m))) n registers v.count v m K (whole_replicas start n registers es laws) (whole_runs start n registers es laws) (whole_pasts start n registers es laws)
      (λ q number d l at first.
      let below = J.below (HistoryCalled d.at (op_id q number) d.op) (J.calls (op_id q number) d (l, at)) in
      subst (λ (before : List Event). start d.op (unsettled ((whole start n registers before).nodes q).state) ≡ CastsAndAnswers) (sym (take-append-le d.at w.accepted (e ∷ []) (omega (arith, below)))) first)
      (λ op first.
      let all : take (length w.accepted) (w.accepted ++ e ∷ []) ≡ w.accepted = take_at w.accepted (e ∷ []) (length w.accepted) refl in
      subst (λ (before : List Event). start op (unsettled ((whole start n registers before).nodes m.0).state) ≡ CastsAndAnswers) (sym all)
      (subst (λ (z : World). start op (unsettled (z.nodes m.0).state) ≡ CastsAndAnswers) (sym (again start n registers es)) first))
      A

  pub all_seated : (events : List Event) → AllSeated (whole start n registers events) (traced start n registers events)
  all_seated = from_end (λ es. AllSeated (whole start n registers es) (traced start n registers es)) (λ p l a d stamp i. absurd i)
      (λ es e A.
      let w = whole start n registers es in
      let m = move_of n registers w e in
      subst (λ (z : World). AllSeated z (traced start n registers (es ++ e ∷ []))) (sym (one_more start n registers es e))
      (subst (AllSeated (moved start w e m)) (sym (traced_more start n registers es e)) (seated_move es e m refl (run_ok start n registers es e) A)))
