-- The answers of a process: one to each call, at places that never fall.
use Rattle.std.proofs.Common.{◌≡◌, ℕ, ◌+◌, ◌-◌, ◌<◌, ◌≤◌, max, List, ◌++◌, length, Option, Some, None, refl, sym, ap}
use Rattle.std.proofs.Common.{◌∙◌, subst, inl, inr, arith}
use Rattle.std.specs.Prelude.{◌==◌, ◌&&◌, count_by}
use Rattle.std.specs.List.{list_any}
use Rattle.std.proofs.lemmas.Bool.{cond_both}
use Rattle.std.proofs.lemmas.Option.{same_Some}
use Rattle.reg_world.proofs.one_order.NodeEvents.{put_same}
use Rattle.reg_base.specs.declared.memory.Op.{Op}
use Rattle.reg_base.specs.declared.stamps.Delivered.{Delivered}
use Rattle.reg_frames.specs.declared.bodies.Body.{Body}
use Rattle.reg_frames.specs.declared.bodies.Body.TheVariants.{Cast, Ack}
use Rattle.reg_frames.specs.declared.bodies.Frame.{Frame}
use Rattle.reg_frames.specs.declared.bodies.Frame.TheVariants.{Numbered, Got}
use Rattle.reg_process.specs.declared.steps.Reply.{Reply}
use Rattle.reg_front.specs.declared.starts.Start.{Start}
use Rattle.reg_front.specs.declared.starts.Start.TheVariants.{Cast as Casts, CastAndAnswer as CastsAndAnswers}
use Rattle.reg_front.specs.declared.starts.Start.TheVariants.{Look as Looks, Hold as Holds}
use Rattle.reg_process.specs.declared.steps.Step.{Step}
use Rattle.reg_process.specs.declared.steps.Step.TheVariants.{Call, Take, Tick}
use Rattle.reg_process.specs.declared.events.Event.{Event}
use Rattle.reg_base.specs.Order.{In, insert}
use Rattle.reg_process.specs.Process.{State, Outcome, Running, Own, Held, is_own, stamp_at, cast_at, clear_casts}
use Rattle.reg_process.specs.Process.{casts_before, up_to_own, reply_after, reply_of, still, called, taken, accepted}
use Rattle.reg_process.specs.Process.{accepts, queues, cast_made, quiet, got_frames, peer_at, unsettled, step}
use Rattle.reg_front.specs.Fronts.{KeepsLaws}
use Rattle.reg_world.specs.Nodes.{Node, Nodes, put, op_in, after_step}
use Rattle.reg_world.specs.NodeParts.{nodes_after}
use Rattle.reg_world.proofs.run.Traced.{Trace, Called, Answered, Past, answered_in, past_after, pasts_after}
use Rattle.reg_world.proofs.run.Traced.{AnswersInOrder, traced}
use Rattle.reg_base.proofs.Lists.{in_cases}
use Rattle.reg_world.proofs.one_order.Acts.{put_cases}
use Rattle.reg_world.proofs.one_order.Runs.{StepKept}
use Rattle.reg_world.proofs.one_order.NodeLaws.{inv_of, run_ok}
use Rattle.reg_world.proofs.one_order.Settled.{whole_runs}
use Rattle.reg_world.proofs.one_order.Wholes.{Replicas, whole_replicas}
use Rattle.reg_world.proofs.one_memory.History.{PastsOk, pasts_step, whole_pasts}
use Rattle.reg_world.proofs.one_memory.Standing.{RunsAs, PastOk}
use Rattle.reg_world.specs.World.{move_of, whole}
use Rattle.reg_world.proofs.run.Along.{along}

-- the calls that have their answer
abbrev pub done_calls : State → Option Running → ℕ
done_calls s None = s.calls
done_calls s (Some r) = s.calls - 1

-- what a step's reply is: of the last call, at a place not before the end of the deliveries
abbrev pub ReplyFits : State → State → Option Reply → Type 0
ReplyFits s s' None = Unit {0}
ReplyFits s s' (Some r) =
    (s.delivered ≤ r.place) × (done_calls s s.running ≤ s'.calls - 1) × (s'.calls - 1 < done_calls s' s'.running)

pub record StepFits (s : State) (r : State × Outcome) : Type 0 where
  pub later : done_calls s s.running ≤ done_calls r.0 r.0.running
  pub reply : ReplyFits s r.0 r.1.reply

-- of delivery, by the reply
still_fits : (s s1 : State) (o : Option Reply) (running : Option Running) (s' : State) → s'.calls ≡ s1.calls
    → ((running ≡ None → ⊥) → 0 < s1.calls) → done_calls s s.running ≤ done_calls s1 running
    → ((running ≡ None → ⊥) → done_calls s s.running ≤ s1.calls - 1)
    → ((r : Reply) → o ≡ Some r → (running ≡ None → ⊥) × (s.delivered ≤ r.place))
    → (done_calls s s.running ≤ done_calls s' (still o running))
    × ((r : Reply) → o ≡ Some r
    → (s.delivered ≤ r.place) × (done_calls s s.running ≤ s'.calls - 1)
    × (s'.calls - 1 < done_calls s' (still o running)))
still_fits s s1 None None s' k pos d e f = (let z = d in omega (arith, k, z), λ r q. absurd (let bad : ⊥ = cc in bad))
still_fits s s1 None (Some x) s' k pos d e f =
    (let z = d in omega (arith, k, z), λ r q. absurd (let bad : ⊥ = cc in bad))
still_fits s s1 (Some y) running s' k pos d e f =
    let g = (f y refl).0 in
    let a = e g in
    let b = pos g in
    ((let z = a in omega (arith, k, z)), λ r q. ((f r q).1, (let z = a in omega (arith, k, z)), (let z = b in omega (arith, k, z))))

-- a reply of delivery is of what runs, after what was delivered
reply_behind : (s : State) (cs : List Delivered) (running : Option Running) (r : Reply) → reply_of s cs running ≡ Some r
    → (running ≡ None → ⊥) × (s.delivered ≤ r.place)
reply_behind s cs None r e = absurd (let bad : ⊥ = cc in bad)
reply_behind s cs (Some (Own stamp op)) r e =
    cond_both (list_any (λ c. (c.stamp.time == stamp.time) && (c.stamp.process == stamp.process)) cs) (Some (reply_after s (casts_before stamp cs) op)) None (λ o. o ≡ Some r → (Some (Own stamp op) ≡ None → ⊥) × (s.delivered ≤ r.place))
    (λ _ q. ((λ n. cc), (let p : reply_after s (casts_before stamp cs) op ≡ r = cc in let z = ap (λ (x : Reply). x.place) p in omega (arith, z)))) (λ _ q. absurd (let bad : ⊥ = cc in bad)) e
reply_behind s cs (Some (Held op)) r e =
    cond_both (count_by (is_own s) cs == unsettled s) (Some (reply_after s (up_to_own s cs) op)) None (λ o. o ≡ Some r → (Some (Held op) ≡ None → ⊥) × (s.delivered ≤ r.place))
    (λ _ q. ((λ n. cc), (let p : reply_after s (up_to_own s cs) op ≡ r = cc in let z = ap (λ (x : Reply). x.place) p in omega (arith, z)))) (λ _ q. absurd (let bad : ⊥ = cc in bad)) e

fits_from : (s s' : State) (o : Option Reply)
    → ((r : Reply) → o ≡ Some r
    → (s.delivered ≤ r.place) × (done_calls s s.running ≤ s'.calls - 1) × (s'.calls - 1 < done_calls s' s'.running))
    → ReplyFits s s' o
fits_from s s' None f = tt
fits_from s s' (Some r) f = f r refl

done_le : (s : State) (running : Option Running) → done_calls s running ≤ s.calls
done_le s None = omega arith
done_le s (Some r) = omega arith

done_same : (s : State) (running : Option Running) → (running ≡ None → ⊥) → done_calls s running ≤ s.calls - 1
done_same s None h = absurd (h refl)
done_same s (Some r) h = omega arith

running_pos : (k : ℕ) (calls : List Called) (running : Option Running) → RunsAs k calls running → (running ≡ None → ⊥)
    → 0 < k
running_pos k calls None h ne = absurd (ne refl)
running_pos k calls (Some (Own stamp op)) h ne = h.0
running_pos k calls (Some (Held op)) h ne = h.0

same_done : (s s' : State) (running : Option Running) → s'.calls ≡ s.calls
    → done_calls s running ≤ done_calls s' running
same_done s s' None e = omega (arith, e)
same_done s s' (Some r) e = omega (arith, e)

module _ (p : ℕ) (s : State) (deliveries : List Delivered) (h : Past) (P : PastOk p s deliveries h) where
  called_fits : (op : Op) (st : Start) → StepFits s (called s op st)
  called_fits op Casts =
      let running = Some (Own (stamp_at (s.clock + 1) s.me) op) in
      let s1 : State = cast_made s op running in
      let d = done_le s s.running in
      let f = still_fits s s1 (reply_of s1 (clear_casts s1) running) running (called s op Casts).0 refl (λ _. omega arith) (omega (arith, d)) (λ _. omega (arith, d)) (λ r e. reply_behind s1 (clear_casts s1) running r e) in
      record { later = f.0; reply = fits_from s (called s op Casts).0 (reply_of s1 (clear_casts s1) running) f.1 }
  called_fits op CastsAndAnswers = let d = done_le s s.running in record { later = omega (arith, d); reply = (omega arith, omega (arith, d), omega arith) }
  called_fits op Looks = let d = done_le s s.running in record { later = omega (arith, d); reply = (omega arith, omega (arith, d), omega arith) }
  called_fits op Holds = let d = done_le s s.running in record { later = omega (arith, d); reply = tt }

  loud_fits : (s1 : State) → s1.calls ≡ s.calls → s1.delivered ≡ s.delivered → (s' : State) → s'.calls ≡ s1.calls → s'.running ≡ still (reply_of s1 (clear_casts s1) s.running) s.running → (done_calls s s.running ≤ done_calls s' s'.running) × ReplyFits s s' (reply_of s1 (clear_casts s1) s.running)
  loud_fits s1 k d s' k' e =
      let f = still_fits s s1 (reply_of s1 (clear_casts s1) s.running) s.running s' k' (λ ne. let z = running_pos s.calls h.calls s.running P.running ne in omega (arith, z, k)) (same_done s s1 s.running k)
      (λ ne. let z = done_same s s.running ne in omega (arith, z, k)) (λ r q. let b = reply_behind s1 (clear_casts s1) s.running r q in (b.0, (let z = b.1 in omega (arith, z, d)))) in
      (subst (λ o. done_calls s s.running ≤ done_calls s' o) (sym e) f.0, fits_from s s' (reply_of s1 (clear_casts s1) s.running) (λ r q. let b = f.1 r q in (b.0, b.1, subst (λ o. s'.calls - 1 < done_calls s' o) (sym e) b.2)))

  accepted_fits : (a : ℕ) (body : Body) → StepFits s (accepted s a body)
  accepted_fits a (Cast t op) =
      let T = max s.clock t + 1 in
      let s1 : State = record (queues T (Ack T) (accepts a t s)) { held = insert (cast_at t a op) s.held } in
      let f = loud_fits s1 refl refl (accepted s a (Cast t op)).0 refl refl in
      record { later = f.0; reply = f.1 }
  accepted_fits a (Ack t) = let f = loud_fits (accepts a t s) refl refl (accepted s a (Ack t)).0 refl refl in record { later = f.0; reply = f.1 }

  taken_fits : (a : ℕ) (f : Frame) → StepFits s (taken s a f)
  taken_fits a (Numbered i body) =
      cond_both (i == (peer_at s a).expected) (accepted s a body) (quiet s (got_frames a (peer_at s a).expected)) (StepFits s) (λ _. accepted_fits a body) (λ _. record { later = same_done s s s.running refl; reply = tt })
  taken_fits a (Got count) = record { later = same_done s (taken s a (Got count)).0 s.running refl; reply = tt }

  pub step_fits : (start : Op → ℕ → Start) (e : Step) → StepFits s (step start s e)
  step_fits start (Call op) = called_fits op (start op (unsettled s))
  step_fits start (Take a f) = taken_fits a f
  step_fits start Tick = record { later = same_done s s s.running refl; reply = tt }

pub record PlacesOk (s : State) (deliveries : List Delivered) (answers : List Answered) : Type 0 where
  pub below : (a : Answered) → In a answers → a.number < done_calls s s.running
  pub within : (a : Answered) → In a answers → a.reply.place ≤ length deliveries
  pub order : AnswersInOrder answers

pub answered_one : (at number : ℕ) (op : Op) (o : Option Reply) (a : Answered) → In a (answered_in at number op o)
    → (r : Reply) × (o ≡ Some r) × (a ≡ record { number = number; at = at; op = op; reply = r })
answered_one at number op None a h = absurd h
answered_one at number op (Some r) a (inl e) = (r, refl, e)
answered_one at number op (Some r) a (inr f) = absurd f

pub fits_at : (s s' : State) (o : Option Reply) (r : Reply) → o ≡ Some r → ReplyFits s s' o
    → (s.delivered ≤ r.place) × (done_calls s s.running ≤ s'.calls - 1) × (s'.calls - 1 < done_calls s' s'.running)
fits_at s s' o r e h = let g : ReplyFits s s' (Some r) = subst (ReplyFits s s') e h in g

places_step : (s : State) (deliveries deliveries' : List Delivered) (answers : List Answered) (at : ℕ) (op : Op)
    (r : State × Outcome)
    → s.delivered ≡ length deliveries → StepFits s r → PlacesOk s deliveries answers
    → ((a : Answered) → In a (answers ++ answered_in at (r.0.calls - 1) op r.1.reply)
    → a.reply.place ≤ length deliveries')
    → PlacesOk r.0 deliveries' (answers ++ answered_in at (r.0.calls - 1) op r.1.reply)
places_step s deliveries deliveries' answers at op r count F O within =
    let new : (a : Answered) → In a (answered_in at (r.0.calls - 1) op r.1.reply) → (s.delivered ≤ a.reply.place) × (done_calls s s.running ≤ a.number) × (a.number < done_calls r.0 r.0.running) =
    λ a i.
    let o = answered_one at (r.0.calls - 1) op r.1.reply a i in
    let f = fits_at s r.0 r.1.reply o.0 o.1 F.reply in
    let p = ap (λ (z : Answered). z.reply.place) o.2 in
    let k = ap (λ (z : Answered). z.number) o.2 in
    ((let z = f.0 in omega (arith, z, p)), (let z = f.1 in omega (arith, z, k)), (let z = f.2 in omega (arith, z, k))) in
    let same : (a b : Answered) → In a (answered_in at (r.0.calls - 1) op r.1.reply) → In b (answered_in at (r.0.calls - 1) op r.1.reply) → a ≡ b =
    λ a b i j.
    let x = answered_one at (r.0.calls - 1) op r.1.reply a i in
    let y = answered_one at (r.0.calls - 1) op r.1.reply b j in
    let q : x.0 ≡ y.0 = same_Some x.0 y.0 (sym x.1 ∙ y.1) in
    x.2 ∙ (ap (λ (z : Reply). record { number = r.0.calls - 1; at = at; op = op; reply = z }) q ∙ sym y.2) in
    record {
      below = λ a i. elim (in_cases a answers _ i) [ inl j ↦ let z = O.below a j in let v = F.later in omega (arith, z, v) | inr j ↦ (new a j).2 ];
      within = within;
      order = record {
        once = λ a b i j e. elim (in_cases a answers _ i) [
          | inl x ↦ elim (in_cases b answers _ j) [ inl y ↦ O.order.once a b x y e | inr y ↦ let z = O.below a x in let v = (new b y).1 in absurd (omega (arith, z, v, e)) ]
          | inr x ↦ elim (in_cases b answers _ j) [ inl y ↦ let z = O.below b y in let v = (new a x).1 in absurd (omega (arith, z, v, e)) | inr y ↦ same a b x y ]
        ];
        places = λ a b i j e. elim (in_cases a answers _ i) [
          | inl x ↦ elim (in_cases b answers _ j) [ inl y ↦ O.order.places a b x y e | inr y ↦ let z = O.within a x in let v = (new b y).0 in omega (arith, z, v, count) ]
          | inr x ↦ elim (in_cases b answers _ j) [ inl y ↦ let z = O.below b y in let v = (new a x).1 in absurd (omega (arith, z, v, e)) | inr y ↦ let q = ap (λ (z : Answered). z.number) (same a b x y) in absurd (omega (arith, q, e)) ]
        ];
      };
    }

abbrev pub AllPlaces : ℕ → Trace → Type 0
AllPlaces n w = (p : ℕ) → p < n → PlacesOk (w.nodes p).state (w.nodes p).deliveries (w.pasts p).answers

all_places_step : (start : Op → ℕ → Start) (n registers k : ℕ) (w : Trace) (e : Event) (m : Option (ℕ × Step))
    → StepKept start n registers k w.nodes m → Replicas n registers w.nodes → PastsOk n w
    → ((q : ℕ) → q < n
    → PastOk q (nodes_after start w.nodes m q).state (nodes_after start w.nodes m q).deliveries
    (pasts_after start w m q))
    → AllPlaces n w → (q : ℕ) → q < n
    → PlacesOk (nodes_after start w.nodes m q).state (nodes_after start w.nodes m q).deliveries
    (pasts_after start w m q).answers
all_places_step start n registers k w e None K R P P' A q l = A q l
all_places_step start n registers k w e (Some m) K R P P' A q l =
    let x = w.nodes m.0 in
    let y = after_step start x m.1 in
    let h = w.pasts m.0 in
    let h' = past_after w.count x.state h m.1 (step start x.state m.1) in
    let ok : PastOk m.0 y.state y.deliveries h' = put_self w.nodes w.pasts m.0 y h' (P' m.0 K.0) in
    put_cases (λ (z : Node). PlacesOk z.state z.deliveries (put w.pasts m.0 h' q).answers) w.nodes m.0 y q
    (λ e. put_cases (λ (g : Past). PlacesOk y.state y.deliveries g.answers) w.pasts m.0 h' q
    (λ _. places_step x.state x.deliveries y.deliveries h.answers w.count (op_in x.state m.1) (step start x.state m.1) (R m.0 K.0).count (step_fits m.0 x.state x.deliveries h (P m.0 K.0).0 start m.1) (A m.0 K.0) (λ a i. (ok.answers a i).0))
    (λ ne. absurd (ne e)))
    (λ ne. put_cases (λ (g : Past). PlacesOk (w.nodes q).state (w.nodes q).deliveries g.answers) w.pasts m.0 h' q (λ e. absurd (ne e)) (λ _. A q l))
  where
    put_self : (nodes : Nodes) (pasts : ℕ → Past) (p : ℕ) (y : Node) (g : Past) → PastOk p (put nodes p y p).state (put nodes p y p).deliveries (put pasts p g p) → PastOk p y.state y.deliveries g
    put_self nodes pasts p y g h = subst (λ (z : Past). PastOk p y.state y.deliveries z) (put_same pasts p g p refl) (subst (λ (z : Node). PastOk p z.state z.deliveries (put pasts p g p)) (put_same nodes p y p refl) h)

pub all_places : (start : Op → ℕ → Start) (n registers : ℕ) (events : List Event) → KeepsLaws start
    → AllPlaces n (traced start n registers events)
all_places start n registers events laws =
    along start n registers (AllPlaces n) (λ p l. record { below = λ a h. absurd h; within = λ a h. absurd h; order = record { once = λ a b i. absurd i; places = λ a b i. absurd i } })
    (λ es e A.
    let v = traced start n registers es in
    let m = move_of n registers (whole start n registers es) e in
    let K = run_ok start n registers es e in
    let R = whole_replicas start n registers es laws in
    let P = whole_pasts start n registers es laws in
    all_places_step start n registers v.count v e m K R P (λ q l. (pasts_step start n registers v.count v m laws (inv_of start n registers es) K R (whole_runs start n registers es laws) P q l).0) A)
    events
