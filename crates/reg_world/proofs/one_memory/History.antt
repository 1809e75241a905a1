-- Each answer is to its call, and stands at its place of the list of deliveries.
use Rattle.std.proofs.Common.{◌≡◌, ℕ, ◌+◌, ◌-◌, ◌<◌, ◌≤◌, ◌⊎◌, max, true, List, [], ◌∷◌, ◌++◌, length, take, replicate}
use Rattle.std.proofs.Common.{Option, Some, None, refl, sym, ap, ◌∙◌, subst, inl, inr, arith, length-append}
use Rattle.std.specs.Prelude.{◌==◌, slice_get}
use Rattle.std.proofs.lemmas.Bool.{cond_both, eq-eqb}
use Rattle.std.proofs.lemmas.List.{append-nil, take_all}
use Rattle.reg_base.specs.declared.stamps.Stamp.{Stamp}
use Rattle.reg_base.specs.declared.memory.Op.{Op}
use Rattle.reg_base.specs.declared.stamps.Delivered.{Delivered}
use Rattle.reg_frames.specs.declared.bodies.Body.{Body}
use Rattle.reg_frames.specs.declared.bodies.Body.TheVariants.{Cast, Ack}
use Rattle.reg_frames.specs.declared.bodies.Frame.{Frame}
use Rattle.reg_frames.specs.declared.bodies.Frame.TheVariants.{Numbered, Got}
use Rattle.reg_process.specs.declared.steps.Reply.{Reply}
use Rattle.reg_front.specs.declared.starts.Start.{Start}
use Rattle.reg_front.specs.declared.starts.Start.TheVariants.{Cast as Casts, CastAndAnswer as CastsAndAnswers}
use Rattle.reg_front.specs.declared.starts.Start.TheVariants.{Look as Looks, Hold as Holds}
use Rattle.reg_process.specs.declared.steps.Step.{Step}
use Rattle.reg_process.specs.declared.steps.Step.TheVariants.{Call, Take, Tick}
use Rattle.reg_base.specs.Order.{In, Rising, insert}
use Rattle.reg_base.specs.Memory.{answer_of, memory_after}
use Rattle.reg_process.specs.Process.{State, ops_of, Running, Own, Held, is_own, stamp_at, cast_at, clear_casts}
use Rattle.reg_process.specs.Process.{reply_of, still, look, done_at_once, cast_made, called, taken, accepted, accepts}
use Rattle.reg_process.specs.Process.{acknowledged, queues, quiet, got_frames, peer_at, delivered_state, unsettled}
use Rattle.reg_process.specs.Process.{step}
use Rattle.reg_front.specs.Fronts.{MayStart, KeepsLaws}
use Rattle.reg_world.specs.Nodes.{Node, put, said, op_in, running_op, after_result, after_step}
use Rattle.reg_world.specs.NodeParts.{nodes_after}
use Rattle.reg_world.proofs.run.Traced.{Trace, casts_of, Called, Answered, Past, answered_in, past_after, pasts_after}
use Rattle.reg_world.proofs.run.Traced.{cast_of, Stands, HistoryRight, traced}
use Rattle.reg_process.specs.declared.events.Event.{Event}
use Rattle.reg_world.proofs.one_order.Worlds.{Inv}
use Rattle.reg_world.proofs.one_order.Acts.{put_cases}
use Rattle.reg_world.proofs.one_order.Runs.{StepKept}
use Rattle.reg_world.proofs.one_order.NodeLaws.{inv_of, run_ok}
use Rattle.reg_world.proofs.one_order.Firsts.{deliveries_prefix, rising_end}
use Rattle.reg_world.proofs.one_order.Wholes.{whole_inv, Replicas, replies_right, whole_replicas}
use Rattle.reg_base.proofs.Lists.{in_left, in_right, in_cases, insert_old, insert_new}
use Rattle.std.proofs.lemmas.Option.{same_Some, none-some}
use Rattle.reg_world.proofs.lists.Bodies.{place_back, place_last, place_split, place_within}
use Rattle.reg_world.proofs.one_order.Local.{delivery_keeps}
use Rattle.reg_world.proofs.one_memory.Replicas.{IsReplica}
use Rattle.reg_world.proofs.one_order.Settled.{IsRunning, Runs, longer, whole_runs}
use Rattle.reg_world.proofs.one_memory.Standing.{RunsAs, AnswerOk, PastOk, stands_later, answer_later, answer_call}
use Rattle.reg_world.proofs.one_memory.Standing.{none_counted, ReplyStands, reply_stands}
use Rattle.reg_world.specs.World.{move_of, whole}
use Rattle.reg_world.proofs.run.Along.{along}

-- with an answer more
with_answer : (p at number : ℕ) (op : Op) (s : State) (deliveries : List Delivered) (calls : List Called)
    (answers : List Answered) (o : Option Reply)
    → PastOk p s deliveries (record { calls = calls; answers = answers }) → ReplyStands p deliveries calls number op o
    → PastOk p s deliveries (record { calls = calls; answers = answers ++ answered_in at number op o })
with_answer p at number op s deliveries calls answers o P h = record {
  count = P.count;
  running = P.running;
  casts = P.casts;
  rises = P.rises;
  past = P.past;
  answers = λ a i. elim (in_cases a answers (answered_in at number op o) i) [ inl j ↦ P.answers a j | inr j ↦ new o h a j ];
}
  where
    new : (o : Option Reply) → ReplyStands p deliveries calls number op o → (a : Answered) → In a (answered_in at number op o) → AnswerOk deliveries calls a
    new None h a i = absurd i
    new (Some r) h a (inl e) = subst (AnswerOk deliveries calls) (sym e) h
    new (Some r) h a (inr f) = absurd f

still_as : (k : ℕ) (calls : List Called) (o : Option Reply) (running : Option Running) → RunsAs k calls running
    → RunsAs k calls (still o running)
still_as k calls None running h = h
still_as k calls (Some r) running h = tt

-- delivery
past_delivers : (p : ℕ) (s : State) (deliveries : List Delivered) (h : Past) → PastOk p s deliveries h
    → PastOk p (delivered_state s) (deliveries ++ clear_casts s) h
past_delivers p s deliveries h P = record {
  count = P.count;
  running = still_as s.calls h.calls (reply_of s (clear_casts s) s.running) s.running P.running;
  casts = λ i d stamp at c. let r = P.casts i d stamp at c in (r.0, delivery_keeps s deliveries _ r.1);
  rises = P.rises;
  past = P.past;
  answers = λ a i. answer_later deliveries (clear_casts s) h.calls a (P.answers a i);
}

-- the same calls, and all that was held
past_same : (p : ℕ) (s s1 : State) (deliveries : List Delivered) (h : Past) → PastOk p s deliveries h
    → s1.calls ≡ s.calls → s1.running ≡ s.running → s.clock ≤ s1.clock → ((c : Delivered) → In c s.held → In c s1.held)
    → PastOk p s1 deliveries h
past_same p s s1 deliveries h P k r l held = record {
  count = P.count ∙ sym k;
  running = (let f : RunsAs s.calls h.calls s1.running = subst (RunsAs s.calls h.calls) (sym r) P.running in subst (λ m. RunsAs m h.calls s1.running) (sym k) f);
  casts = λ i d stamp at c. let t = P.casts i d stamp at c in (t.0, elim (in_cases _ deliveries s.held t.1) [ inl j ↦ in_left _ deliveries s1.held j | inr j ↦ in_right _ deliveries s1.held (held _ j) ]);
  rises = P.rises;
  past = λ i d stamp at c. let t = P.past i d stamp at c in omega (arith, t, l);
  answers = P.answers;
}

-- one more call
past_call : (p : ℕ) (s s1 : State) (deliveries : List Delivered) (h : Past) (new : Called) → PastOk p s deliveries h
    → ((c : Delivered) → In c deliveries → c.stamp.time ≤ s.clock) → s1.calls ≡ s.calls + 1
    → RunsAs s1.calls (h.calls ++ new ∷ []) s1.running → s.clock ≤ s1.clock
    → ((c : Delivered) → In c s.held → In c s1.held)
    → ((stamp : Stamp) → new.cast ≡ Some stamp
    → (stamp.process ≡ p) × (s.clock < stamp.time) × (stamp.time ≤ s1.clock) × In (cast_of stamp new.op) s1.held)
    → PastOk p s1 deliveries (record { calls = h.calls ++ new ∷ []; answers = h.answers })
past_call p s s1 deliveries h new P times k runs l held made =
    let which : (i : ℕ) (d : Called) → slice_get (h.calls ++ new ∷ []) i ≡ Some d → (slice_get h.calls i ≡ Some d) ⊎ ((length h.calls ≤ i) × (d ≡ new)) =
    λ i d at. elim (place_split h.calls (new ∷ []) i d at) [ inl q ↦ inl q | inr q ↦ inr (q.0, elim q.1 [ inl e ↦ e | inr f ↦ absurd f ]) ] in
    record {
      count = let z = length-append h.calls (new ∷ []) in let v = P.count in omega (arith, z, v, k);
      running = runs;
      casts = λ i d stamp at c. elim (which i d at) [
        | inl q ↦ let t = P.casts i d stamp q c in (t.0, elim (in_cases _ deliveries s.held t.1) [ inl j ↦ in_left _ deliveries s1.held j | inr j ↦ in_right _ deliveries s1.held (held _ j) ])
        | inr q ↦ let m = made stamp (ap (λ (x : Called). x.cast) (sym q.1) ∙ c) in
            (m.0, subst (λ (x : Called). In (cast_of stamp x.op) (deliveries ++ s1.held)) (sym q.1) (in_right _ deliveries s1.held m.3))
      ];
      rises = λ i j d e a b at_i at_j ca cb less. elim (which j e at_j) [
        | inl q ↦ P.rises i j d e a b (place_back h.calls (new ∷ []) i d (let z = place_within h.calls j e q in omega (arith, z, less)) at_i) q ca cb less
        | inr q ↦ let m = made b (ap (λ (x : Called). x.cast) (sym q.1) ∙ cb) in elim (which i d at_i) [
          | inl r ↦ let t = P.past i d a r ca in let z = m.1 in omega (arith, t, z)
          | inr r ↦ let z = place_within (h.calls ++ new ∷ []) j e at_j in let v = length-append h.calls (new ∷ []) in let u = r.0 in absurd (omega (arith, z, v, u, less))
        ]
      ];
      past = λ i d stamp at c. elim (which i d at) [
        | inl q ↦ let t = P.past i d stamp q c in omega (arith, t, l)
        | inr q ↦ (made stamp (ap (λ (x : Called). x.cast) (sym q.1) ∙ c)).2
      ];
      answers = λ a i. answer_call deliveries h.calls new a (λ stamp e c j. let t = times c j in let z = (made stamp e).1 in omega (arith, t, z)) (P.answers a i);
    }

past_nil : (p : ℕ) (s : State) (deliveries : List Delivered) (h : Past) → PastOk p s deliveries h
    → PastOk p s (deliveries ++ []) h
past_nil p s deliveries h P = subst (λ f. PastOk p s f h) (sym (append-nil deliveries)) P

calls_nil : (p : ℕ) (s : State) (deliveries : List Delivered) (h : Past) (answers : List Answered)
    → PastOk p s deliveries (record { calls = h.calls; answers = answers })
    → PastOk p s deliveries (record { calls = h.calls ++ []; answers = answers })
calls_nil p s deliveries h answers P =
    subst (λ c. PastOk p s deliveries (record { calls = c; answers = answers })) (sym (append-nil h.calls)) P

module _ (registers p at : ℕ) (x : Node) (h : Past) (me : x.state.me ≡ p) (times : (c : Delivered) → In c x.deliveries → c.stamp.time ≤ x.state.clock) (R : IsReplica registers x) (W : Runs x.state x.state.running) (P : PastOk p x.state x.deliveries h) where
  last_call : (new : Called) (k : ℕ) → k ≡ x.state.calls + 1 → slice_get (h.calls ++ new ∷ []) (k - 1) ≡ Some new
  last_call new k e = ap (slice_get (h.calls ++ new ∷ [])) (let c = P.count in let z : k - 1 ≡ length h.calls = omega (arith, c, e) in z) ∙ place_last h.calls new

  cast_past : (op : Op) (running : Option Running) → RunsAs (x.state.calls + 1) (h.calls ++ record { op = op; at = at; cast = Some (stamp_at (x.state.clock + 1) x.state.me) } ∷ []) running → PastOk p (cast_made x.state op running) x.deliveries (record { calls = h.calls ++ record { op = op; at = at; cast = Some (stamp_at (x.state.clock + 1) x.state.me) } ∷ []; answers = h.answers })
  cast_past op running runs =
      past_call p x.state (cast_made x.state op running) x.deliveries h (record { op = op; at = at; cast = Some (stamp_at (x.state.clock + 1) x.state.me) }) P times refl runs (omega arith)
      (λ c i. insert_old c (cast_at (x.state.clock + 1) x.state.me op) x.state.held i)
      (λ stamp e.
      let q : stamp ≡ stamp_at (x.state.clock + 1) x.state.me = same_Some _ _ (sym e) in (
        ap (λ (z : Stamp). z.process) q ∙ me,
        (let z = ap (λ (z : Stamp). z.time) q in omega (arith, z)),
        (let z = ap (λ (z : Stamp). z.time) q in omega (arith, z)),
        insert_new _ _ x.state.held (ap (λ z. cast_of z op) q),
      ))

  -- what is looked up stands after all own casts so far
  look_stands : (new : Called) → new.cast ≡ None → unsettled x.state ≡ 0 → Stands (x.deliveries ++ []) (h.calls ++ new ∷ []) (x.state.calls + 1 - 1) (x.state.delivered + 0) new None
  look_stands new none settled j e stamp at c =
      let front_is : take (x.state.delivered + 0) (x.deliveries ++ []) ≡ x.deliveries = ap (take (x.state.delivered + 0)) (append-nil x.deliveries) ∙ take_all (x.state.delivered + 0) x.deliveries (let z = R.count in omega (arith, z)) in
      elim (place_split h.calls (new ∷ []) j e at) [
        | inl q ↦
            let r = P.casts j e stamp q c in
            let own : is_own x.state (cast_of stamp e.op) ≡ true = eq-eqb stamp.process x.state.me (r.0 ∙ sym me) in (
              (λ _. subst (In (cast_of stamp e.op)) (sym front_is) (elim (in_cases _ x.deliveries x.state.held r.1) [
                | inl i ↦ i
                | inr i ↦ absurd (none_counted (is_own x.state) (cast_of stamp e.op) x.state.held settled i own)
              ])),
              (λ m _. let z = place_within h.calls j e q in let v = P.count in omega (arith, z, v, m)),
            )
        | inr q ↦
            let same : e ≡ new = elim q.1 [ inl f ↦ f | inr f ↦ absurd f ] in
            absurd (none-some stamp (sym none ∙ (ap (λ (z : Called). z.cast) (sym same) ∙ c)))
      ]

  pub called_past : (op : Op) (st : Start) → MayStart op (unsettled x.state) st
      → Rising (after_result x op (called x.state op st)).deliveries
      → PastOk p (called x.state op st).0 (x.deliveries ++ (called x.state op st).1.delivered)
      (past_after at x.state h (Call op) (called x.state op st))
  called_past op Casts may rises =
      let st = stamp_at (x.state.clock + 1) x.state.me in
      let new : Called = record { op = op; at = at; cast = Some st } in
      let s1 : State = cast_made x.state op (Some (Own st op)) in
      let runs : RunsAs s1.calls (h.calls ++ new ∷ []) (Some (Own st op)) = (omega arith, (at, last_call new s1.calls refl)) in
      let Q = cast_past op (Some (Own st op)) runs in
      with_answer p at (s1.calls - 1) op _ _ (h.calls ++ new ∷ []) h.answers (reply_of s1 (clear_casts s1) s1.running) (past_delivers p s1 x.deliveries _ Q)
      (reply_stands p s1 x.deliveries _ me R.count (rising_end x.deliveries (clear_casts s1) rises) Q (Some (Own st op)) runs (insert_new _ _ x.state.held refl))
  called_past op CastsAndAnswers may rises =
      let st = stamp_at (x.state.clock + 1) x.state.me in
      let new : Called = record { op = op; at = at; cast = Some st } in
      let s1 : State = cast_made x.state op None in
      with_answer p at (s1.calls - 1) op _ _ (h.calls ++ new ∷ []) h.answers (Some (done_at_once x.state)) (past_delivers p s1 x.deliveries _ (cast_past op None tt))
      ((let z = R.count in let v = length-append x.deliveries (clear_casts s1) in omega (arith, z, v)), (new, last_call new s1.calls refl, refl, inl may))
  called_past op Looks may rises =
      let new : Called = record { op = op; at = at; cast = None } in
      let s1 : State = record x.state { calls = x.state.calls + 1; running = None } in
      let nothing : (stamp : Stamp) → new.cast ≡ Some stamp → ⊥ = λ stamp e. none-some stamp e in
      let runs : RunsAs s1.calls (h.calls ++ new ∷ []) s1.running = tt in
      with_answer p at (s1.calls - 1) op s1 (x.deliveries ++ []) (h.calls ++ new ∷ []) h.answers (Some (look x.state op))
      (past_nil p s1 x.deliveries _ (past_call p x.state s1 x.deliveries h new P times refl runs (omega arith) (λ c i. i) (λ stamp e. absurd (nothing stamp e))))
      ((let z = R.count in let v = length-append {A = Delivered} x.deliveries [] in omega (arith, z, v)), (new, last_call new s1.calls refl, refl, look_stands new refl may.1))
  called_past op Holds may rises =
      let new : Called = record { op = op; at = at; cast = None } in
      let s1 : State = record x.state { calls = x.state.calls + 1; running = Some (Held op) } in
      let nothing : (stamp : Stamp) → new.cast ≡ Some stamp → ⊥ = λ stamp e. none-some stamp e in
      let runs : RunsAs s1.calls (h.calls ++ new ∷ []) s1.running = (omega arith, (at, last_call new s1.calls refl)) in
      with_answer p at (s1.calls - 1) op s1 (x.deliveries ++ []) (h.calls ++ new ∷ []) h.answers None
      (past_nil p s1 x.deliveries _ (past_call p x.state s1 x.deliveries h new P times refl runs (omega arith) (λ c i. i) (λ stamp e. absurd (nothing stamp e)))) tt

  -- what is taken makes no call
  pub accepted_past : (a : ℕ) (body : Body)
      → Rising (after_result x (running_op x.state.running) (accepted x.state a body)).deliveries
      → PastOk p (accepted x.state a body).0 (x.deliveries ++ (accepted x.state a body).1.delivered)
      (past_after at x.state h (Take a (Numbered 0 body)) (accepted x.state a body))
  accepted_past a (Cast t op) rises =
      let T = max x.state.clock t + 1 in
      let s1 : State = record (queues T (Ack T) (accepts a t x.state)) { held = insert (cast_at t a op) x.state.held } in
      let Q = past_same p x.state s1 x.deliveries h P refl refl (omega arith) (λ c i. insert_old c (cast_at t a op) x.state.held i) in
      calls_nil p _ _ h _ (with_answer p at (s1.calls - 1) (running_op x.state.running) _ _ h.calls h.answers (reply_of s1 (clear_casts s1) s1.running) (past_delivers p s1 x.deliveries h Q)
      (reply_stands p s1 x.deliveries h me R.count (rising_end x.deliveries (clear_casts s1) rises) Q s1.running Q.running (longer x W s1 (cast_at t a op) x.state.running refl refl W)))
  accepted_past a (Ack t) rises =
      let s1 : State = accepts a t x.state in
      let Q = past_same p x.state s1 x.deliveries h P refl refl (omega arith) (λ c i. i) in
      calls_nil p _ _ h _ (with_answer p at (s1.calls - 1) (running_op x.state.running) _ _ h.calls h.answers (reply_of s1 (clear_casts s1) s1.running) (past_delivers p s1 x.deliveries h Q)
      (reply_stands p s1 x.deliveries h me R.count (rising_end x.deliveries (clear_casts s1) rises) Q s1.running Q.running W))

  quiet_past : (s1 : State) → s1.calls ≡ x.state.calls → s1.running ≡ x.state.running → s1.clock ≡ x.state.clock → s1.held ≡ x.state.held → PastOk p s1 (x.deliveries ++ []) (record { calls = h.calls ++ []; answers = h.answers ++ [] })
  quiet_past s1 k r c e =
      calls_nil p s1 (x.deliveries ++ []) h (h.answers ++ []) (past_nil p s1 x.deliveries _ (with_answer p at 0 (running_op x.state.running) s1 x.deliveries h.calls h.answers None (past_same p x.state s1 x.deliveries h P k r (omega (arith, c)) (λ d i. subst (In d) (sym e) i)) tt))

  taken_past : (a : ℕ) (f : Frame) → Rising (after_result x (running_op x.state.running) (taken x.state a f)).deliveries → PastOk p (taken x.state a f).0 (x.deliveries ++ (taken x.state a f).1.delivered) (past_after at x.state h (Take a f) (taken x.state a f))
  taken_past a (Numbered i body) rises =
      cond_both (i == (peer_at x.state a).expected) (accepted x.state a body) (quiet x.state (got_frames a (peer_at x.state a).expected))
      (λ r. Rising (after_result x (running_op x.state.running) r).deliveries → PastOk p r.0 (x.deliveries ++ r.1.delivered) (past_after at x.state h (Take a (Numbered i body)) r))
      (λ _. accepted_past a body)
      (λ _ _. quiet_past x.state refl refl refl refl)
      rises
  taken_past a (Got count) rises = quiet_past (acknowledged x.state a count) refl refl refl refl

  pub step_past : (start : Op → ℕ → Start) (e : Step) → KeepsLaws start → Rising (after_step start x e).deliveries
      → PastOk p (after_step start x e).state (after_step start x e).deliveries
      (past_after at x.state h e (step start x.state e))
  step_past start (Call op) laws rises = called_past op (start op (unsettled x.state)) (laws op (unsettled x.state)) rises
  step_past start (Take a f) laws rises = taken_past a f rises
  step_past start Tick laws rises = quiet_past x.state refl refl refl refl

-- each answer is among the replies
abbrev pub AnswersReplied : Node → Past → Type 0
AnswersReplied x h = (a : Answered) → In a h.answers → In (record { op = a.op; reply = a.reply }) x.replies

answers_replied : (start : Op → ℕ → Start) (at : ℕ) (x : Node) (h : Past) (e : Step) → AnswersReplied x h
    → AnswersReplied (after_step start x e) (past_after at x.state h e (step start x.state e))
answers_replied start at x h e A a i =
    let r = step start x.state e in
    elim (in_cases a h.answers (answered_in at (r.0.calls - 1) (op_in x.state e) r.1.reply) i) [
      | inl j ↦ in_left _ x.replies _ (A a j)
      | inr j ↦ in_right _ x.replies _ (new (op_in x.state e) (r.0.calls - 1) r.1.reply a j)
    ]
  where
    new : (op : Op) (number : ℕ) (o : Option Reply) (a : Answered) → In a (answered_in at number op o) → In (record { op = a.op; reply = a.reply }) (said op o)
    new op number None a i = i
    new op number (Some r) a (inl q) = inl (ap (λ (z : Answered). record { op = z.op; reply = z.reply }) q)
    new op number (Some r) a (inr f) = inr f

abbrev pub PastsOk : ℕ → Trace → Type 0
PastsOk n w = (p : ℕ) → p < n → PastOk p (w.nodes p).state (w.nodes p).deliveries (w.pasts p) × AnswersReplied (w.nodes p) (w.pasts p)

pub pasts_step : (start : Op → ℕ → Start) (n registers k : ℕ) (w : Trace) (m : Option (ℕ × Step)) → KeepsLaws start
    → Inv n registers k w.nodes → StepKept start n registers k w.nodes m → Replicas n registers w.nodes
    → ((p : ℕ) → IsRunning (w.nodes p)) → PastsOk n w → (q : ℕ) → q < n
    → PastOk q (nodes_after start w.nodes m q).state (nodes_after start w.nodes m q).deliveries
    (pasts_after start w m q)
    × AnswersReplied (nodes_after start w.nodes m q) (pasts_after start w m q)
pasts_step start n registers k w None laws I K R W P q l = P q l
pasts_step start n registers k w (Some m) laws I K R W P q l =
    let x = w.nodes m.0 in
    let y = after_step start x m.1 in
    let h' = past_after w.count x.state (w.pasts m.0) m.1 (step start x.state m.1) in
    put_cases (λ (z : Node). PastOk q z.state z.deliveries (put w.pasts m.0 h' q) × AnswersReplied z (put w.pasts m.0 h' q)) w.nodes m.0 y q
    (λ e. put_cases (λ (g : Past). PastOk q y.state y.deliveries g × AnswersReplied y g) w.pasts m.0 h' q
    (λ _. subst (λ r. PastOk r y.state y.deliveries h' × AnswersReplied y h') (sym e) (
      step_past registers m.0 w.count x (w.pasts m.0) (I.local m.0 K.0).me (I.local m.0 K.0).delivery_times (R m.0 K.0) (W m.0) (P m.0 K.0).0 start m.1 laws K.1.local.deliveries_rise,
      answers_replied start w.count x (w.pasts m.0) m.1 (P m.0 K.0).1,
    ))
    (λ ne. absurd (ne e)))
    (λ ne. put_cases (λ (g : Past). PastOk q (w.nodes q).state (w.nodes q).deliveries g × AnswersReplied (w.nodes q) g) w.pasts m.0 h' q (λ e. absurd (ne e)) (λ _. P q l))

pub whole_pasts : (start : Op → ℕ → Start) (n registers : ℕ) (events : List Event) → KeepsLaws start
    → PastsOk n (traced start n registers events)
whole_pasts start n registers events laws =
    along start n registers (PastsOk n)
    (λ p l. (record { count = refl; running = tt; casts = λ i d stamp h. absurd (let bad : ⊥ = cc in bad); rises = λ i j d e a b h. absurd (let bad : ⊥ = cc in bad); past = λ i d stamp h. absurd (let bad : ⊥ = cc in bad); answers = λ a h. absurd h }, λ a h. absurd h))
    (λ es e P. let v = traced start n registers es in
    pasts_step start n registers v.count v (move_of n registers (whole start n registers es) e) laws (inv_of start n registers es) (run_ok start n registers es e) (whole_replicas start n registers es laws) (whole_runs start n registers es laws) P)
    events

pub history_right : (start : Op → ℕ → Start) (n registers : ℕ) (events : List Event) → KeepsLaws start
    → HistoryRight n registers (traced start n registers events)
history_right start n registers events laws p a l i =
    let w = traced start n registers events in
    let P = whole_pasts start n registers events laws p l in
    let A = P.0.answers a i in
    let f = deliveries_prefix n registers w.count w (whole_inv start n registers events) p l in
    let r = replies_right start n registers events laws p (record { op = a.op; reply = a.reply }) l (P.1 a i) in
    let stands : Stands (casts_of w.order) (w.pasts p).calls a.number a.reply.place A.1.0 A.1.0.cast =
    subst (λ order. Stands order (w.pasts p).calls a.number a.reply.place A.1.0 A.1.0.cast) f.1 (stands_later (w.nodes p).deliveries f.0 (w.pasts p).calls a.number a.reply.place A.1.0 A.1.0.cast A.0 A.1.3) in
    (A.1.0, A.1.1, r.0, r.1 ∙ ap (λ o. answer_of o (memory_after (ops_of (take a.reply.place (casts_of w.order))) (replicate registers 0))) (sym A.1.2), stands)
