-- Reads stand in order of their answers, and each first delivery has its event's number.
use Rattle.std.proofs.Common.{◌≡◌, ℕ, ◌+◌, ◌-◌, ◌<◌, ◌≤◌, true, not, List, [], ◌∷◌, ◌++◌, length, map, take, Option}
use Rattle.std.proofs.Common.{Some, None, refl, sym, ap, ◌∙◌, subst, inl, inr, arith, length-append}
use Rattle.std.specs.Prelude.{◌==◌, ◌&&◌}
use Rattle.std.specs.List.{list_any}
use Rattle.std.proofs.lemmas.Bool.{cond_both, eq-eqb, and_from, not-true, false≢true}
use Rattle.std.proofs.lemmas.List.{take-append-le, take_at, take_all}
use Rattle.std.proofs.lemmas.Option.{none-some}
use Rattle.reg_base.specs.declared.stamps.Stamp.{Stamp}
use Rattle.reg_base.specs.declared.memory.Op.{Op}
use Rattle.reg_base.specs.declared.memory.OpId.{OpId}
use Rattle.reg_base.specs.declared.memory.Answer.{Answer}
use Rattle.reg_base.specs.declared.stamps.Delivered.{Delivered}
use Rattle.reg_base.specs.Order.{In}
use Rattle.reg_front.specs.declared.starts.Start.{Start}
use Rattle.reg_front.specs.Fronts.{KeepsLaws}
use Rattle.reg_process.specs.declared.steps.Reply.{Reply}
use Rattle.reg_process.specs.declared.steps.Step.{Step}
use Rattle.reg_process.specs.Process.{State, Outcome, step}
use Rattle.reg_checkers.specs.declared.entries.Entry.TheVariants.{Answered}
use Rattle.reg_checkers.specs.History.{IsAt, IsAnswered}
use Rattle.reg_checkers.proofs.Histories.{answer_is}
use Rattle.reg_process.specs.declared.events.Event.{Event}
use Rattle.reg_world.specs.declared.order.First.{First}
use Rattle.reg_world.specs.declared.order.CopyRead.{CopyRead}
use Rattle.reg_world.specs.Nodes.{Node, unseen, after_step}
use Rattle.reg_world.specs.Runs.{Cast}
use Rattle.reg_world.specs.World.{World, Replied, op_id, calls_in, answers_in, casts_in, has_cast, reads_in, first_of}
use Rattle.reg_world.specs.World.{delivered_of, move_of, moved, whole}
use Rattle.reg_world.specs.Promises.{OrderIsRight, FirstsRight, ReadsRight}
use Rattle.reg_world.proofs.run.Traced.{Called as PastCall, Past, pasts_after, traced}
use Rattle.reg_base.proofs.Lists.{in_left, in_right, in_filter}
use Rattle.reg_world.proofs.lists.Bodies.{place_in, place_back, place_split, place_within}
use Rattle.reg_world.proofs.one_order.NodeEvents.{put_same}
use Rattle.reg_world.proofs.lists.Members.{in_at, at_in, in_map, map_in, from_end}
use Rattle.reg_world.proofs.one_memory.Added.{IsPastCall}
use Rattle.reg_world.proofs.one_memory.Kept.{Kept, kept, kept_moved, call_of}
use Rattle.reg_world.proofs.one_order.Allowed.{Allowed, allowed}
use Rattle.reg_world.proofs.witness.Promised.{order_right}
use Rattle.reg_world.proofs.witness.Premises.{V, J, G, no_cast}
use Rattle.reg_world.proofs.run.Along.{move_is, one_more}
use Rattle.reg_world.proofs.run.Begun.{again, again_moved}
use Rattle.reg_process.proofs.Deliver.{any_finds}

-- reads, in order of their answers
abbrev InOrder : World → Type 0
InOrder w = (i j : ℕ) (p q : CopyRead) (s t : ℕ) (x y : Answer) → IsAt w.reads i p → IsAt w.reads j q → i < j → IsAnswered w.history p.id s x → IsAnswered w.history q.id t y → s < t

read_answer : (casts : List Cast) (at : ℕ) (id : OpId) (o : Option Reply) (q : CopyRead) → In q (reads_in casts id o)
    → (q.id ≡ id) × ((x : Answer) × In (Answered at id x) (answers_in at id o))
read_answer casts at id None q h = absurd h
read_answer casts at id (Some r) q h =
    cond_both (has_cast casts id) [] (record { id = id; place = r.place } ∷ []) (λ l. In q l → (q.id ≡ id) × ((x : Answer) × In (Answered at id x) (answers_in at id (Some r))))
    (λ e i. absurd i)
    (λ e i. elim i [ inl same ↦ (ap (λ (z : CopyRead). z.id) same, (r.answer, inl refl)) | inr f ↦ absurd f ])
    h

read_once : (casts : List Cast) (id : OpId) (o : Option Reply) → length (reads_in casts id o) ≤ 1
read_once casts id None = omega arith
read_once casts id (Some r) = cond_both (has_cast casts id) [] (record { id = id; place = r.place } ∷ []) (λ l. length l ≤ 1) (λ e. omega arith) (λ e. omega arith)

module _ (start : Op → ℕ → Start) (n registers : ℕ) (laws : KeepsLaws start) where
  order_moved : (w : World) (e : Event) (m : ℕ × Step) (pasts pasts' : ℕ → Past) → Kept n registers w pasts → Kept n registers (moved start w e (Some m)) pasts' → InOrder w → InOrder (moved start w e (Some m))
  order_moved w e m pasts pasts' K K' h i k p q s t x y at bt less ans bns =
      let st = m.1 in
      let S : State = (w.nodes m.0).state in
      let R : State × Outcome = step start S st in
      let At = length w.accepted in
      let Old = op_id m.0 S.calls in
      let New = op_id m.0 (R.0.calls - 1) in
      let Casts = w.casts ++ casts_in Old st R.1.cast in
      let N = reads_in Casts New R.1.reply in
      let C = calls_in At Old st in
      let A = answers_in At New R.1.reply in
      let now = (w.history ++ C) ++ A in
      let more = length-append w.reads N in
      let one = read_once Casts New R.1.reply in
      let last = place_within (w.reads ++ N) k q bt in
      let early : IsAt w.reads i p = place_back w.reads N i p (omega (arith, more, one, last, less)) at in
      let r = K.joined.read p (place_in w.reads i p early) in
      let a = r.0 in
      let old : In (Answered a.at p.id a.reply.answer) w.history = K.joined.answers p.id a r.2 in
      let old_now : IsAnswered now p.id a.at a.reply.answer = in_at _ now (in_left _ (w.history ++ C) A (in_left _ w.history C old)) in
      let when = (answer_is n registers now K'.history p.id s a.at x a.reply.answer ans old_now).0 in
      elim (place_split w.reads N k q bt) [
        | inl late ↦
            let u = K.joined.read q (place_in w.reads k q late) in
            let b = u.0 in
            let told = K.joined.answers q.id b u.2 in
            let told_now : IsAnswered now q.id b.at b.reply.answer = in_at _ now (in_left _ (w.history ++ C) A (in_left _ w.history C told)) in
            let then_ = (answer_is n registers now K'.history q.id t b.at y b.reply.answer bns told_now).0 in
            let z = h i k p q a.at b.at a.reply.answer b.reply.answer early late less (in_at _ w.history old) (in_at _ w.history told) in
            omega (arith, z, when, then_)
        | inr new ↦
            let u = read_answer Casts At New R.1.reply q new.1 in
            let told_now : IsAnswered now q.id At u.1.0 = subst (λ id. IsAnswered now id At u.1.0) (sym u.0) (in_at _ now (in_right _ (w.history ++ C) A u.1.1)) in
            let then_ = (answer_is n registers now K'.history q.id t At y u.1.0 bns told_now).0 in
            let z = K.joined.below _ old in
            omega (arith, z, when, then_)
      ]

  order_step : (events : List Event) (e : Event) (m : Option (ℕ × Step)) → move_of n registers (whole start n registers events) e ≡ m → InOrder (whole start n registers events) → InOrder (moved start (whole start n registers events) e m)
  order_step events e None is h = h
  order_step events e (Some m) is h =
      let v = traced start n registers events in
      let K = kept start n registers laws events in
      order_moved (whole start n registers events) e m v.pasts (pasts_after start v (Some m)) K (kept_moved start n registers laws events e (Some m) K is) h

  reads_in_order : (events : List Event) → InOrder (whole start n registers events)
  reads_in_order =
      from_end (λ es. InOrder (whole start n registers es)) (λ i j p q s t x y h. absurd (none-some p h))
      (λ es e h. subst InOrder (sym (one_more start n registers es e)) (order_step es e (move_of n registers (whole start n registers es) e) refl h))

  uncast : (events : List Event) (id : OpId) (d : PastCall) → IsPastCall n (V start n registers laws events).pasts id d → ((c : Cast) → ((k : ℕ) × IsAt (whole start n registers events).casts k c) → c.id ≡ id → ⊥) → (o : Option Stamp) → d.cast ≡ o → d.cast ≡ None
  uncast events id d call never None none = none
  uncast events id d call never (Some stamp) made =
      let c : Cast = record { stamp = stamp; id = id; op = d.op } in
      absurd (never c (in_at c (whole start n registers events).casts ((J start n registers laws events).casts id d stamp call made)) refl)

  pub reads_right : (events : List Event) → ReadsRight (whole start n registers events)
  reads_right events =
      let w = whole start n registers events in
      let j = J start n registers laws events in
      record {
        some = λ q i.
            let r = j.read q (at_in q w.reads i) in
            let y : Replied = record { id = q.id; at = r.0.at; reply = r.0.reply } in
            (y, in_at y w.replies (j.replies q.id r.0 r.2), refl, r.4);
        no_cast = λ q c i k. let r = j.read q (at_in q w.reads i) in no_cast start n registers laws events q.id r.1 r.3 r.5 c k;
        all = λ y i none.
            let r = j.replied y (at_in y w.replies i) in
            let d = call_of n registers (V start n registers laws events) (G start n registers laws events).right y.id r.0 r.1 in
            let q = j.reads y.id r.0 d.0 r.1 d.1 (uncast events y.id d.0 d.1 none d.0.cast refl) in
            in_at _ w.reads (subst (λ (z : Reply). In (record { id = y.id; place = z.place }) w.reads) r.3 q);
        in_order = reads_in_order events;
      }

  -- what is told of first deliveries
  record Arrived (w : World) : Type 0 where
    pub bound : (k : ℕ) (f : First) → IsAt w.order k f → f.at < length w.accepted
    pub right : FirstsRight start n registers w

  arrived_moved : (w : World) (e : Event) (m : ℕ × Step) → move_of n registers w e ≡ Some m → whole start n registers w.accepted ≡ w → Arrived w → Arrived (moved start w e (Some m))
  arrived_moved w e m is same A =
      let st = m.1 in
      let S : State = (w.nodes m.0).state in
      let R : State × Outcome = step start S st in
      let At = length w.accepted in
      let Casts = w.casts ++ casts_in (op_id m.0 S.calls) st R.1.cast in
      let known = map delivered_of w.order in
      let U = unseen known R.1.delivered in
      let New = map (first_of Casts At) U in
      let w' = moved start w e (Some m) in
      let longer = length-append w.accepted (e ∷ []) in
      let same' : whole start n registers w'.accepted ≡ w' = again_moved start n registers w e (Some m) is same in
      let O : OrderIsRight n w = subst (OrderIsRight n) same (order_right start n registers laws w.accepted) in
      let L : m.0 < n = (subst (Allowed n registers w.nodes) (move_is n registers w e m is).1 (allowed n registers w.nodes e)).0 in
      let y : Node = after_step start (w.nodes m.0) st in
      let new_is : (f : First) → In f New → (c : Delivered) × In c U × (f ≡ first_of Casts At c) = λ f i. map_in (first_of Casts At) f U i in
      let fresh : (c : Delivered) → In c U → (q : ℕ) → q < n → In c (w.nodes q).deliveries → ⊥ =
      λ c i q l h.
      let g = O.all q c l h in
      let test = λ (d : Delivered). (d.stamp.time == c.stamp.time) && (d.stamp.process == c.stamp.process) in
      let there : In c known = subst (λ z. In z known) g.3 (in_map delivered_of g.1 w.order (place_in w.order g.0 g.1 g.2)) in
      let found : list_any test known ≡ true = any_finds test c known there (and_from _ _ (eq-eqb c.stamp.time c.stamp.time refl) (eq-eqb c.stamp.process c.stamp.process refl)) in
      false≢true (sym (not-true _ (in_filter c (λ (x : Delivered). not (list_any (λ (d : Delivered). (d.stamp.time == x.stamp.time) && (d.stamp.process == x.stamp.process)) known)) R.1.delivered i).1) ∙ found) in
      record {
        bound = λ k f at. elim (place_split w.order New k f at) [
          | inl old ↦ let z = A.bound k f old in omega (arith, z, longer)
          | inr new ↦ let c = new_is f new.1 in let z = ap (λ (x : First). x.at) c.2 in omega (arith, z, longer)
        ];
        right = record {
          before = λ k f q at l h. elim (place_split w.order New k f at) [
            | inl old ↦
                let b = A.bound k f old in
                let shorter : take f.at w'.accepted ≡ take f.at w.accepted = take-append-le f.at w.accepted (e ∷ []) (omega (arith, b)) in
                A.right.before k f q old l (subst (λ es. In (delivered_of f) ((whole start n registers es).nodes q).deliveries) shorter h)
            | inr new ↦
                let c = new_is f new.1 in
                let z = ap (λ (x : First). x.at) c.2 in
                let shorter : take f.at w'.accepted ≡ w.accepted = take_at w.accepted (e ∷ []) f.at (sym z) in
                let i : In (delivered_of f) (w.nodes q).deliveries = subst (λ (x : World). In (delivered_of f) (x.nodes q).deliveries) same (subst (λ es. In (delivered_of f) ((whole start n registers es).nodes q).deliveries) shorter h) in
                fresh c.0 c.1 q l (subst (λ (x : First). In (delivered_of x) (w.nodes q).deliveries) c.2 i)
          ];
          then_there = λ k f at. elim (place_split w.order New k f at) [
            | inl old ↦
                let b = A.bound k f old in
                let shorter : take (f.at + 1) w'.accepted ≡ take (f.at + 1) w.accepted = take-append-le (f.at + 1) w.accepted (e ∷ []) (omega (arith, b)) in
                let r = A.right.then_there k f old in
                (r.0, r.1, subst (λ es. In (delivered_of f) ((whole start n registers es).nodes r.0).deliveries) (sym shorter) r.2)
            | inr new ↦
                let c = new_is f new.1 in
                let z = ap (λ (x : First). x.at) c.2 in
                let all : take (f.at + 1) w'.accepted ≡ w'.accepted = take_all (f.at + 1) w'.accepted (omega (arith, z, longer)) in
                let i : In c.0 R.1.delivered = (in_filter c.0 (λ (x : Delivered). not (list_any (λ (d : Delivered). (d.stamp.time == x.stamp.time) && (d.stamp.process == x.stamp.process)) known)) R.1.delivered c.1).0 in
                let here : (w'.nodes m.0).deliveries ≡ (w.nodes m.0).deliveries ++ R.1.delivered = ap (λ (x : Node). x.deliveries) (put_same w.nodes m.0 y m.0 refl) in
                let h : In (delivered_of f) (w'.nodes m.0).deliveries = subst (λ (x : First). In (delivered_of x) (w'.nodes m.0).deliveries) (sym c.2) (subst (In c.0) (sym here) (in_right c.0 (w.nodes m.0).deliveries R.1.delivered i)) in
                (m.0, L, subst (λ es. In (delivered_of f) ((whole start n registers es).nodes m.0).deliveries) (sym all) (subst (λ (x : World). In (delivered_of f) (x.nodes m.0).deliveries) (sym same') h))
          ];
        };
      }

  arrived_step : (w : World) (e : Event) (m : Option (ℕ × Step)) → move_of n registers w e ≡ m → whole start n registers w.accepted ≡ w → Arrived w → Arrived (moved start w e m)
  arrived_step w e None is same A = A
  arrived_step w e (Some m) is same A = arrived_moved w e m is same A

  pub firsts_right : (events : List Event) → FirstsRight start n registers (whole start n registers events)
  firsts_right events = (from_end (λ es. Arrived (whole start n registers es))
      (record { bound = λ k f h. absurd (none-some f h); right = record { before = λ k f q h. absurd (none-some f h); then_there = λ k f h. absurd (none-some f h) } })
      (λ es e A. let w = whole start n registers es in subst Arrived (sym (one_more start n registers es e)) (arrived_step w e (move_of n registers w e) refl (again start n registers es) A))
      events).right
