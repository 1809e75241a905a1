-- First deliveries lie between call and answer, where every operation is cast.
use Rattle.std.proofs.Common.{◌≡◌, ℕ, ◌+◌, ◌-◌, ◌<◌, ◌≤◌, max, List, [], ◌∷◌, ◌++◌, length, Option, Some, None, refl}
use Rattle.std.proofs.Common.{sym, ap, ◌∙◌, subst, inl, inr, arith}
use Rattle.std.specs.Prelude.{◌==◌, ◌&&◌, slice_get}
use Rattle.std.specs.List.{list_any}
use Rattle.std.proofs.lemmas.Bool.{cond_both, eqb-true, and_parts}
use Rattle.std.proofs.lemmas.List.{append-nil}
use Rattle.reg_base.specs.declared.stamps.Stamp.{Stamp}
use Rattle.reg_base.specs.declared.memory.Op.{Op}
use Rattle.reg_base.specs.declared.stamps.Delivered.{Delivered}
use Rattle.reg_frames.specs.declared.bodies.Body.{Body}
use Rattle.reg_frames.specs.declared.bodies.Body.TheVariants.{Cast, Ack}
use Rattle.reg_frames.specs.declared.bodies.Frame.{Frame}
use Rattle.reg_frames.specs.declared.bodies.Frame.TheVariants.{Numbered, Got}
use Rattle.reg_process.specs.declared.steps.Reply.{Reply}
use Rattle.reg_front.specs.declared.starts.Start.{Start}
use Rattle.reg_front.specs.declared.starts.Start.TheVariants.{Cast as Casts}
use Rattle.reg_process.specs.declared.steps.Step.{Step}
use Rattle.reg_process.specs.declared.steps.Step.TheVariants.{Call, Take, Tick}
use Rattle.reg_base.specs.Order.{In, insert}
use Rattle.reg_process.specs.Process.{State, Running, Own, Held, is_clear, stamp_at, cast_at, clear_casts, casts_before}
use Rattle.reg_process.specs.Process.{reply_after, reply_of, cast_made, called, taken, accepted, accepts, queues, quiet}
use Rattle.reg_process.specs.Process.{got_frames, peer_at, unsettled, step, Outcome}
use Rattle.reg_front.specs.Fronts.{MayStart, KeepsLaws, CastsAll}
use Rattle.reg_world.specs.Nodes.{Node, op_in, after_step, unseen}
use Rattle.reg_world.specs.NodeParts.{nodes_after}
use Rattle.reg_world.proofs.run.Traced.{Trace, casts_of, Called, Answered, Past, answered_in, past_after, pasts_after}
use Rattle.reg_world.proofs.run.Traced.{cast_of, NeverFalls, TimesRight, First, firsts, order_after, count_after}
use Rattle.reg_world.proofs.run.Traced.{called_in, traced}
use Rattle.reg_process.specs.declared.events.Event.{Event}
use Rattle.reg_world.proofs.one_order.Acts.{put_cases}
use Rattle.reg_world.proofs.one_order.Runs.{StepKept}
use Rattle.reg_world.proofs.one_order.NodeLaws.{run_ok}
use Rattle.reg_world.proofs.one_order.Wholes.{whole_inv}
use Rattle.reg_base.proofs.Lists.{in_left, in_right, in_cases, in_filter, filter_in, insert_new}
use Rattle.std.proofs.lemmas.Option.{same_Some, none-some}
use Rattle.reg_world.proofs.lists.Bodies.{place_back, place_last, place_split, place_within}
use Rattle.reg_world.proofs.one_order.Settled.{IsRunning, Runs, longer, whole_runs}
use Rattle.reg_world.proofs.one_order.NodeEvents.{put_same}
use Rattle.reg_world.proofs.one_order.Firsts.{Ordered, ordered_after, WorldInv}
use Rattle.reg_world.proofs.one_order.Worlds.{delivered_made}
use Rattle.reg_world.proofs.one_memory.Turns.{answered_one}
use Rattle.reg_world.proofs.one_memory.History.{PastsOk, whole_pasts}
use Rattle.reg_world.proofs.one_memory.Standing.{RunsAs, PastOk}
use Rattle.reg_world.specs.World.{move_of, whole}
use Rattle.reg_world.proofs.run.Along.{along}
use Rattle.reg_process.proofs.Deliver.{any_found}

pub laws_of : (start : Op → ℕ → Start) → CastsAll start → KeepsLaws start
laws_of start all op u = subst (MayStart op u) (sym (all op u)) tt

-- where the reply is of an own cast, that is delivered
own_reply : (s : State) (running : Option Running) (k : ℕ) (calls : List Called) (r : Reply) (d : Called)
    (stamp : Stamp)
    → Runs s running → RunsAs k calls running → reply_of s (clear_casts s) running ≡ Some r
    → slice_get calls (k - 1) ≡ Some d → d.cast ≡ Some stamp → In (cast_of stamp d.op) (clear_casts s)
own_reply s None k calls r d stamp runs last e at c = absurd (let bad : ⊥ = cc in bad)
own_reply s (Some (Own st op)) k calls r d stamp runs last e at c =
    let same : d ≡ record { op = op; at = last.1.0; cast = Some st } = same_Some _ _ (sym at ∙ last.1.1) in
    let is : cast_of st op ≡ cast_of stamp d.op = (λ i. cast_of (same_Some st stamp (sym (ap (λ (z : Called). z.cast) same) ∙ c) i) (sym (ap (λ (z : Called). z.op) same) i)) in
    subst (λ z. In z (clear_casts s)) is
    (cond_both (list_any (λ c. (c.stamp.time == st.time) && (c.stamp.process == st.process)) (clear_casts s)) (Some (reply_after s (casts_before st (clear_casts s)) op)) None (λ o. o ≡ Some r → In (cast_of st op) (clear_casts s))
    (λ t _.
    let f = any_found (λ c. (c.stamp.time == st.time) && (c.stamp.process == st.process)) (clear_casts s) t in
    let parts = and_parts (f.0.stamp.time == st.time) (f.0.stamp.process == st.process) f.2 in
    let q : f.0.stamp ≡ st = (λ i. record { time = eqb-true _ _ parts.0 i; process = eqb-true _ _ parts.1 i }) in
    filter_in (cast_of st op) (λ c. is_clear s c.stamp) s.held runs (ap (is_clear s) (sym q) ∙ (in_filter f.0 (λ c. is_clear s c.stamp) s.held f.1).1))
    (λ _ q. absurd (none-some r q)) e)
own_reply s (Some (Held op)) k calls r d stamp runs last e at c =
    let same : d ≡ record { op = op; at = last.1.0; cast = None } = same_Some _ _ (sym at ∙ last.1.1) in
    absurd (none-some stamp (sym (ap (λ (z : Called). z.cast) same) ∙ c))

module _ (p at : ℕ) (x : Node) (h : Past) (W : Runs x.state x.state.running) (P : PastOk p x.state x.deliveries h) where
  -- the reply's own cast is in the list of deliveries
  abbrev OwnIn : Step → State × Outcome → Type 0
  OwnIn e r = (y : Reply) (d : Called) (stamp : Stamp) → r.1.reply ≡ Some y → slice_get (h.calls ++ called_in at e r.1.cast) (r.0.calls - 1) ≡ Some d → d.cast ≡ Some stamp → In (cast_of stamp d.op) (x.deliveries ++ r.1.delivered)

  casts_own : (op : Op) → OwnIn (Call op) (called x.state op Casts)
  casts_own op y d stamp e q c =
      let st = stamp_at (x.state.clock + 1) x.state.me in
      let new : Called = record { op = op; at = at; cast = Some st } in
      let s1 : State = cast_made x.state op (Some (Own st op)) in
      let last : slice_get (h.calls ++ new ∷ []) (s1.calls - 1) ≡ Some new = ap (slice_get (h.calls ++ new ∷ [])) (let k = P.count in let z : s1.calls - 1 ≡ length h.calls = omega (arith, k) in z) ∙ place_last h.calls new in
      in_right _ x.deliveries (clear_casts s1) (own_reply s1 (Some (Own st op)) s1.calls (h.calls ++ new ∷ []) y d stamp (insert_new _ _ x.state.held refl) (omega arith, (at, last)) e q c)

  loud_own : (s1 : State) → s1.calls ≡ x.state.calls → Runs s1 x.state.running → (y : Reply) (d : Called) (stamp : Stamp) → reply_of s1 (clear_casts s1) x.state.running ≡ Some y → slice_get (h.calls ++ []) (s1.calls - 1) ≡ Some d → d.cast ≡ Some stamp → In (cast_of stamp d.op) (x.deliveries ++ clear_casts s1)
  loud_own s1 k runs y d stamp e q c =
      in_right _ x.deliveries (clear_casts s1) (own_reply s1 x.state.running x.state.calls h.calls y d stamp runs P.running e
      (ap (λ m. slice_get h.calls (m - 1)) (sym k) ∙ (ap (λ l. slice_get l (s1.calls - 1)) (sym (append-nil h.calls)) ∙ q)) c)

  accepted_own : (a : ℕ) (body : Body) (f : Frame) → OwnIn (Take a f) (accepted x.state a body)
  accepted_own a (Cast t op) f =
      let T = max x.state.clock t + 1 in
      let s1 : State = record (queues T (Ack T) (accepts a t x.state)) { held = insert (cast_at t a op) x.state.held } in
      loud_own s1 refl (longer x W s1 (cast_at t a op) x.state.running refl refl W)
  accepted_own a (Ack t) f = loud_own (accepts a t x.state) refl W

  taken_own : (a : ℕ) (f : Frame) → OwnIn (Take a f) (taken x.state a f)
  taken_own a (Numbered i body) =
      cond_both (i == (peer_at x.state a).expected) (accepted x.state a body) (quiet x.state (got_frames a (peer_at x.state a).expected)) (OwnIn (Take a (Numbered i body)))
      (λ _. accepted_own a body (Numbered i body)) (λ _ y d stamp e q c. absurd (none-some y e))
  taken_own a (Got count) = λ y d stamp e q c. absurd (none-some y e)

  pub step_own : (start : Op → ℕ → Start) → CastsAll start → (e : Step) → OwnIn e (step start x.state e)
  step_own start all (Call op) = subst (λ st. OwnIn (Call op) (called x.state op st)) (sym (all op (unsettled x.state))) (casts_own op)
  step_own start all (Take a f) = taken_own a f
  step_own start all Tick = λ y d stamp e q c. absurd (none-some y e)

  -- a new call's stamp is above the clock
  pub step_late : (start : Op → ℕ → Start) → CastsAll start → (e : Step) (d : Called) (stamp : Stamp)
      → In d (called_in at e (step start x.state e).1.cast) → d.cast ≡ Some stamp
      → (stamp.process ≡ x.state.me) × (x.state.clock < stamp.time)
  step_late start all (Call op) =
      subst (λ st. (d : Called) (stamp : Stamp) → In d (called_in at (Call op) (called x.state op st).1.cast) → d.cast ≡ Some stamp → (stamp.process ≡ x.state.me) × (x.state.clock < stamp.time)) (sym (all op (unsettled x.state)))
      (λ d stamp i c. elim i [
        | inl q ↦
            let s : stamp_at (x.state.clock + 1) x.state.me ≡ stamp = same_Some _ _ (sym (ap (λ (z : Called). z.cast) q) ∙ c) in
            (ap (λ (z : Stamp). z.process) (sym s), (let z = ap (λ (v : Stamp). v.time) s in omega (arith, z)))
        | inr f ↦ absurd f
      ])
  step_late start all (Take a f) = λ d stamp i c. absurd i
  step_late start all Tick = λ d stamp i c. absurd i

pub new_at : (at : ℕ) (e : Step) (cast : Option Stamp) (d : Called) → In d (called_in at e cast) → d.at ≡ at
new_at at (Call op) cast d (inl q) = ap (λ (z : Called). z.at) q
new_at at (Call op) cast d (inr f) = absurd f
new_at at (Take a f) cast d i = absurd i
new_at at Tick cast d i = absurd i

in_firsts : (k : ℕ) (cs : List Delivered) (f : First) → In f (firsts k cs) → (f.at ≡ k) × In f.cast cs
in_firsts k [] f h = absurd h
in_firsts k (c ∷ cs) f (inl e) = (ap (λ (z : First). z.at) e, inl (ap (λ (z : First). z.cast) e))
in_firsts k (c ∷ cs) f (inr h) = let r = in_firsts k cs f h in (r.0, inr r.1)

cast_in : (order : List First) (f : First) → In f order → In f.cast (casts_of order)
cast_in [] f h = h
cast_in (g ∷ order) f (inl e) = inl (ap (λ (z : First). z.cast) e)
cast_in (g ∷ order) f (inr h) = inr (cast_in order f h)

first_in : (order : List First) (c : Delivered) → In c (casts_of order) → (f : First) × In f order × (f.cast ≡ c)
first_in [] c h = absurd h
first_in (g ∷ order) c (inl e) = (g, inl refl, sym e)
first_in (g ∷ order) c (inr h) = let r = first_in order c h in (r.0, inr r.1, r.2)

falls_append : (fs gs : List First) → NeverFalls fs → NeverFalls gs → ((f g : First) → In f fs → In g gs → f.at ≤ g.at)
    → NeverFalls (fs ++ gs)
falls_append [] gs a b h = b
falls_append (f ∷ fs) gs a b h = (λ g i. elim (in_cases g fs gs i) [ inl j ↦ a.0 g j | inr j ↦ h f g (inl refl) j ], falls_append fs gs a.1 b (λ x y i j. h x y (inr i) j))

falls_same : (k : ℕ) (cs : List Delivered) → NeverFalls (firsts k cs)
falls_same k [] = tt
falls_same k (c ∷ cs) = (λ g i. let z = (in_firsts k cs g i).0 in omega (arith, z), falls_same k cs)

pub record TimesOk (n count : ℕ) (order : List First) (pasts : ℕ → Past) : Type 0 where
  pub right : TimesRight n order pasts
  pub order_below : (f : First) → In f order → f.at < count
  pub calls_below : (p number : ℕ) (d : Called) → p < n → slice_get (pasts p).calls number ≡ Some d → d.at < count

times_after : (start : Op → ℕ → Start) (n registers k : ℕ) (w : Trace) (m : Option (ℕ × Step)) → CastsAll start
    → WorldInv n registers k w → StepKept start n registers k w.nodes m → ((p : ℕ) → IsRunning (w.nodes p))
    → PastsOk n w → Ordered n (nodes_after start w.nodes m) (casts_of (order_after start w m))
    → TimesOk n w.count w.order w.pasts
    → TimesOk n (count_after w.count m) (order_after start w m) (pasts_after start w m)
times_after start n registers k w None all V K W P O T = T
times_after start n registers k w (Some m) all V K W P O T =
    let p = m.0 in
    let e = m.1 in
    let x = w.nodes p in
    let h = w.pasts p in
    let r = step start x.state e in
    let y = after_step start x e in
    let h' = past_after w.count x.state h e r in
    let I = V.inv in
    let cs = unseen (casts_of w.order) r.1.delivered in
    let late : (d : Called) (f : First) → In d (called_in w.count e r.1.cast) → In f w.order → d.cast ≡ Some f.cast.stamp → ⊥ =
    λ d f i j c.
    let s = step_late p w.count x h (W p) (P p K.0).0 start all e d f.cast.stamp i c in
    let o = V.ordered.some f.cast (cast_in w.order f j) in
    let made = delivered_made n registers k w.nodes I o.0 o.1 f.cast o.2 in
    let at_p : f.cast.stamp.process ≡ p = s.0 ∙ (I.local p K.0).me in
    let in_p = subst (λ q. slice_get (w.nodes q).queued made.1.0 ≡ Some (Cast f.cast.stamp.time f.cast.op)) at_p made.1.1 in
    let old = (I.sent p K.0).past made.1.0 (Cast f.cast.stamp.time f.cast.op) in_p in
    let new = s.1 in
    omega (arith, old, new) in
    let by_now : (f : First) → In f (w.order ++ firsts w.count cs) → f.at ≤ w.count =
    λ f i. elim (in_cases f w.order (firsts w.count cs) i) [ inl j ↦ let z = T.order_below f j in omega (arith, z) | inr j ↦ let z = (in_firsts w.count cs f j).0 in omega (arith, z) ] in
    record {
      right = record {
        never_falls = falls_append w.order (firsts w.count cs) T.right.never_falls (falls_same w.count cs) (λ f g i j. let a = T.order_below f i in let b = (in_firsts w.count cs g j).0 in omega (arith, a, b));
        after_call = λ q number d f l at i c.
            elim (in_cases f w.order (firsts w.count cs) i) [
              | inl j ↦ put_cases (λ (g : Past). slice_get g.calls number ≡ Some d → d.at ≤ f.at) w.pasts p h' q
                  (λ eq at'. elim (place_split h.calls (called_in w.count e r.1.cast) number d at') [
                    | inl b ↦ T.right.after_call p number d f K.0 b j c
                    | inr b ↦ absurd (late d f b.1 j c)
                  ])
                  (λ ne at'. T.right.after_call q number d f l at' j c)
                  at
              | inr j ↦
                  let now = (in_firsts w.count cs f j).0 in
                  put_cases (λ (g : Past). slice_get g.calls number ≡ Some d → d.at ≤ f.at) w.pasts p h' q
                  (λ eq at'. elim (place_split h.calls (called_in w.count e r.1.cast) number d at') [
                    | inl b ↦ let z = T.calls_below p number d K.0 b in omega (arith, z, now)
                    | inr b ↦ let z = new_at w.count e r.1.cast d b.1 in omega (arith, z, now)
                  ])
                  (λ ne at'. let z = T.calls_below q number d l at' in omega (arith, z, now))
                  at
            ];
        before_answer = λ q a d stamp l i at c.
            put_cases (λ (g : Past). In a g.answers → slice_get g.calls a.number ≡ Some d → (f : First) × In f (w.order ++ firsts w.count cs) × (f.cast ≡ cast_of stamp d.op) × (f.at ≤ a.at)) w.pasts p h' q
            (λ eq i' at'. elim (in_cases a h.answers (answered_in w.count (r.0.calls - 1) (op_in x.state e) r.1.reply) i') [
              | inl j ↦
                  let ok = (P p K.0).0.answers a j in
                  let old : slice_get h.calls a.number ≡ Some d = place_back h.calls (called_in w.count e r.1.cast) a.number d (place_within h.calls a.number ok.1.0 ok.1.1) at' in
                  let f = T.right.before_answer p a d stamp K.0 j old c in
                  (f.0, in_left f.0 w.order (firsts w.count cs) f.1, f.2, f.3)
              | inr j ↦
                  let o = answered_one w.count (r.0.calls - 1) (op_in x.state e) r.1.reply a j in
                  let number_is : a.number ≡ r.0.calls - 1 = ap (λ (z : Answered). z.number) o.2 in
                  let own = step_own p w.count x h (W p) (P p K.0).0 start all e o.0 d stamp o.1 (ap (slice_get h'.calls) (sym number_is) ∙ at') c in
                  let placed : In (cast_of stamp d.op) (nodes_after start w.nodes (Some m) p).deliveries = subst (λ (z : Node). In (cast_of stamp d.op) z.deliveries) (sym (put_same w.nodes p y p refl)) own in
                  let f = first_in (w.order ++ firsts w.count cs) (cast_of stamp d.op) (O.all p (cast_of stamp d.op) K.0 placed) in
                  (f.0, f.1, f.2, (let z = by_now f.0 f.1 in let v = ap (λ (z : Answered). z.at) o.2 in omega (arith, z, v)))
            ])
            (λ ne i' at'. let f = T.right.before_answer q a d stamp l i' at' c in (f.0, in_left f.0 w.order (firsts w.count cs) f.1, f.2, f.3))
            i at;
      };
      order_below = λ f i. let z = by_now f i in omega (arith, z);
      calls_below = λ q number d l at. put_cases (λ (g : Past). slice_get g.calls number ≡ Some d → d.at < w.count + 1) w.pasts p h' q
          (λ eq at'. elim (place_split h.calls (called_in w.count e r.1.cast) number d at') [
            | inl b ↦ let z = T.calls_below p number d K.0 b in omega (arith, z)
            | inr b ↦ let z = new_at w.count e r.1.cast d b.1 in omega (arith, z)
          ])
          (λ ne at'. let z = T.calls_below q number d l at' in omega (arith, z))
          at;
    }

pub times_right : (start : Op → ℕ → Start) (n registers : ℕ) (events : List Event) → CastsAll start
    → let v = traced start n registers events in TimesRight n v.order v.pasts
times_right start n registers events all =
    (along start n registers (λ v. TimesOk n v.count v.order v.pasts)
    (record {
      right = record { never_falls = tt; after_call = λ p number d f l h. absurd (let bad : ⊥ = cc in bad); before_answer = λ p a d stamp l h. absurd h };
      order_below = λ f h. absurd h;
      calls_below = λ p number d l h. absurd (let bad : ⊥ = cc in bad);
    })
    (λ es e T.
    let v = traced start n registers es in
    let m = move_of n registers (whole start n registers es) e in
    let laws = laws_of start all in
    let K = run_ok start n registers es e in
    let V = whole_inv start n registers es in
    times_after start n registers v.count v m all V K (whole_runs start n registers es laws) (whole_pasts start n registers es laws) (ordered_after start n registers v.count v m V.inv K V.ordered) T)
    events).right
