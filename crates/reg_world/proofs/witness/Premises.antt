-- What the orders of a run rest on, of every run.
use Rattle.std.proofs.Common.{◌≡◌, ◌≢◌, ℕ, zero, suc, ◌<◌, ◌≤◌, List, [], ◌∷◌, length, map, take, Option, Some, None}
use Rattle.std.proofs.Common.{refl, sym, ap, ◌∙◌, subst, inl, inr, arith}
use Rattle.std.specs.Prelude.{slice_get}
use Rattle.std.proofs.lemmas.Bool.{cases_order, false≢true}
use Rattle.std.proofs.lemmas.List.{length-map}
use Rattle.std.proofs.lemmas.Option.{same_Some, none-some}
use Rattle.reg_base.specs.declared.stamps.Stamp.{Stamp}
use Rattle.reg_base.specs.declared.memory.Op.{Op}
use Rattle.reg_base.specs.declared.memory.OpId.{OpId}
use Rattle.reg_base.specs.declared.memory.Answer.{Answer}
use Rattle.reg_base.specs.declared.stamps.Delivered.{Delivered}
use Rattle.reg_base.specs.Memory.{answer_of, memory_after, blank}
use Rattle.reg_base.specs.Order.{Below, In}
use Rattle.reg_front.specs.declared.starts.Start.{Start}
use Rattle.reg_front.specs.Fronts.{KeepsLaws}
use Rattle.reg_process.specs.Process.{ops_of}
use Rattle.reg_checkers.specs.declared.entries.Entry.TheVariants.{Called, Answered}
use Rattle.reg_checkers.specs.History.{IsAt, IsCalled, IsAnswered}
use Rattle.reg_checkers.proofs.Places.{IsAt-map, at_map}
use Rattle.reg_process.specs.declared.events.Event.{Event}
use Rattle.reg_world.specs.declared.order.First.{First}
use Rattle.reg_world.specs.declared.order.CopyRead.{CopyRead}
use Rattle.reg_world.specs.Runs.{Cast, Run, IsWaiting, memory_of}
use Rattle.reg_world.specs.World.{World, delivered_of, run_of, whole}
use Rattle.reg_world.proofs.run.Traced.{Called as PastCall, Answered as PastAnswer, Trace, casts_of, cast_of, Stands}
use Rattle.reg_world.proofs.run.Traced.{traced}
use Rattle.reg_world.proofs.witness.Facts.{IsCastAt, IsWaiting as WaitsInTrace, memory_at, RunFacts}
use Rattle.reg_world.proofs.witness.Bridge.{run_facts}
use Rattle.reg_world.proofs.lists.Bodies.{place_in}
use Rattle.reg_world.proofs.lists.Members.{in_at, at_in}
use Rattle.reg_world.proofs.one_memory.Joined.{Joined}
use Rattle.reg_world.proofs.one_memory.Added.{IsPastCall, IsPastAnswer, cast_of_first}
use Rattle.reg_world.proofs.one_memory.Kept.{Known, known, one_stamp, Kept, kept}
use Rattle.reg_world.proofs.witness.Replies.{ordered_is_run}
use Rattle.reg_world.proofs.witness.Grounds.{IsRun, Came, AtDelivery, AtOnce, FromCopy, IsCopyRead, IsOrdered}
use Rattle.reg_world.proofs.run.Along.{plain_casts}

ops_take : (k : ℕ) (fs : List First) → ops_of (take k (map delivered_of fs)) ≡ map (λ c. c.op) (take k fs)
ops_take zero [] = refl
ops_take zero (f ∷ fs) = refl
ops_take (suc k) [] = refl
ops_take (suc k) (f ∷ fs) = ap (λ l. f.op ∷ l) (ops_take k fs)

abbrev pub as_delivered : Cast → Delivered
as_delivered c = record { stamp = c.stamp; op = c.op }

module _ (start : Op → ℕ → Start) (n registers : ℕ) (laws : KeepsLaws start) (events : List Event) where
  abbrev pub W : World
  W = whole start n registers events

  abbrev pub V : Trace
  V = traced start n registers events

  abbrev pub R : Run
  R = run_of registers W

  pub K : Kept n registers W V.pasts
  K = kept start n registers laws events

  pub J : Joined n W V.pasts
  J = K.joined

  pub F : RunFacts n registers V
  F = run_facts start n registers events laws

  pub G : Known n registers V
  G = known start n registers laws events

  pub same_casts : map delivered_of W.order ≡ casts_of V.order
  same_casts = sym (plain_casts W.order)

  pub in_trace : (k : ℕ) (c : First) → IsAt W.order k c → slice_get (casts_of V.order) k ≡ Some (delivered_of c)
  in_trace k c at = ap (λ l. slice_get l k) (sym same_casts) ∙ IsAt-map delivered_of W.order k c at

  pub from_trace : (k : ℕ) (d : Delivered) → slice_get (casts_of V.order) k ≡ Some d
      → (c : First) × IsAt W.order k c × (delivered_of c ≡ d)
  from_trace k d at = at_map delivered_of W.order k d (ap (λ l. slice_get l k) same_casts ∙ at)

  same_memory : (k : ℕ) → memory_at registers V k ≡ memory_of R k
  same_memory k = ap (λ l. memory_after l (blank registers)) (ap (λ l. ops_of (take k l)) (sym same_casts) ∙ ops_take k W.order)

  same_call : (id : OpId) (d f : PastCall) → IsPastCall n V.pasts id d → IsPastCall n V.pasts id f → d ≡ f
  same_call id d f a b = same_Some d f (sym a.1 ∙ b.1)

  -- the cast of an id is told with its call
  cast_at : (c : Cast) → ((k : ℕ) × IsAt W.casts k c) → (d : PastCall) × IsPastCall n V.pasts c.id d × (d.cast ≡ Some c.stamp) × (d.op ≡ c.op)
  cast_at c i = J.cast c (at_in c W.casts i)

  call_at : (c : Cast) → ((k : ℕ) × IsAt W.casts k c) → (c.id.process < n) × IsCastAt V c.id.process c.id.number (as_delivered c)
  call_at c i = let r = cast_at c i in (r.1.0, (r.0, r.1.1, r.2, r.3))

  pub first_at : (k : ℕ) (c : First) → IsAt W.order k c → (k : ℕ) × IsAt W.casts k (cast_of_first c)
  first_at k c at = in_at (cast_of_first c) W.casts (J.first c (place_in W.order k c at))

  -- two casts of one stamp have one id
  pub one_id : (a b : Cast) → ((k : ℕ) × IsAt W.casts k a) → ((k : ℕ) × IsAt W.casts k b) → a.stamp ≡ b.stamp
      → a.id ≡ b.id
  one_id a b i j e =
      let x = cast_at a i in
      let y = cast_at b j in
      one_stamp n V G.pasts a.id b.id x.0 y.0 b.stamp x.1 y.1 (x.2 ∙ ap Some e) y.2

  waits : (d : Cast) → ((k : ℕ) × IsAt W.casts k d) → IsWaiting R d.id → WaitsInTrace V (as_delivered d)
  waits d i h k at =
      let c = from_trace k (as_delivered d) at in
      h k c.0 c.1 (one_id (cast_of_first c.0) d (first_at k c.0 c.1) i (ap (λ (z : Delivered). z.stamp) c.2))

  one_cast : (d e : Cast) → ((k : ℕ) × IsAt W.casts k d) → ((k : ℕ) × IsAt W.casts k e) → d.id ≡ e.id → d ≡ e
  one_cast d e i j same =
      let x = cast_at d i in
      let y = cast_at e j in
      let call : x.0 ≡ y.0 = same_call e.id x.0 y.0 (subst (λ z. IsPastCall n V.pasts z x.0) same x.1) y.1 in
      let stamp : d.stamp ≡ e.stamp = same_Some d.stamp e.stamp (sym x.2 ∙ (ap (λ (z : PastCall). z.cast) call ∙ y.2)) in
      let op : d.op ≡ e.op = sym x.3 ∙ (ap (λ (z : PastCall). z.op) call ∙ y.3) in
      (λ k. record { stamp = stamp k; id = same k; op = op k })

  own_casts : (d e : Cast) → ((k : ℕ) × IsAt W.casts k d) → ((k : ℕ) × IsAt W.casts k e) → d.id.process ≡ e.id.process → d.id.number < e.id.number → Below d.stamp e.stamp
  own_casts d e i j same less =
      let x = call_at d i in
      let y = call_at e j in
      (F.own_casts d.id.process d.id.number e.id.number (as_delivered d) (as_delivered e) x.0 x.1 (subst (λ p. IsCastAt V p e.id.number (as_delivered e)) (sym same) y.1) less).2

  was_called : (d : Cast) → ((k : ℕ) × IsAt W.casts k d) → (at : ℕ) × IsCalled W.history d.id at d.op
  was_called d i =
      let x = cast_at d i in
      (x.0.at, subst (λ o. IsCalled W.history d.id x.0.at o) x.3 (in_at (Called x.0.at d.id x.0.op) W.history (J.calls d.id x.0 x.1)))

  pub no_cast : (id : OpId) (d : PastCall) → IsPastCall n V.pasts id d → d.cast ≡ None → (c : Cast)
      → ((k : ℕ) × IsAt W.casts k c) → c.id ≢ id
  no_cast id d call none c i same =
      let x = cast_at c i in
      let one : x.0 ≡ d = same_call id x.0 d (subst (λ z. IsPastCall n V.pasts z x.0) same x.1) call in
      none-some c.stamp (sym none ∙ (sym (ap (λ (z : PastCall). z.cast) one) ∙ x.2))

  copies : (q : CopyRead) → ((k : ℕ) × IsAt W.reads k q) → IsCopyRead R q
  copies q i =
      let r = J.read q (at_in q W.reads i) in
      let a = r.0 in
      let d = r.1 in
      let p = q.id.process in
      let at : slice_get (V.pasts p).calls a.number ≡ Some d = subst (λ k. slice_get (V.pasts p).calls k ≡ Some d) (sym r.2.2) r.3.1 in
      let place : a.reply.place ≡ q.place = r.4 in
      let number : a.number ≡ q.id.number = r.2.2 in
      record {
        finished = (a.at, a.reply.answer, in_at (Answered a.at q.id a.reply.answer) W.history (J.answers q.id a r.2));
        within = let z = (F.answered p a d r.2.0 r.2.1 at).0 in let u = ap length same_casts in let m = length-map W.order delivered_of in omega (arith, z, u, m, place);
        no_cast = no_cast q.id d r.3 r.5;
        earlier = λ c j same less.
            let x = call_at c j in
            let f = F.earlier p a d c.id.number (as_delivered c) r.2.0 r.2.1 at r.5 (subst (λ z. IsCastAt V z c.id.number (as_delivered c)) same x.1) (omega (arith, less, number)) in
            let g = from_trace f.0 (as_delivered c) f.2 in
            (f.0, g.0, g.1, one_id (cast_of_first g.0) c (first_at f.0 g.0 g.1) j (ap (λ (z : Delivered). z.stamp) g.2), (let z = f.1 in omega (arith, z, place)));
        later = λ k c here same less.
            let x = call_at (cast_of_first c) (first_at k c here) in
            let z = F.later p a d c.id.number (delivered_of c) k r.2.0 r.2.1 at r.5 (subst (λ z. IsCastAt V z c.id.number (delivered_of c)) same x.1) (omega (arith, less, number)) (in_trace k c here) in
            omega (arith, z, place);
      }

  places : (p q : CopyRead) → ((k : ℕ) × IsAt W.reads k p) → ((k : ℕ) × IsAt W.reads k q) → p.id.process ≡ q.id.process → p.id.number ≤ q.id.number → p.place ≤ q.place
  places p q i j same le =
      let x = J.read p (at_in p W.reads i) in
      let y = J.read q (at_in q W.reads j) in
      let O = (G.places q.id.process y.2.0).order in
      let mine : In x.0 (V.pasts q.id.process).answers = subst (λ z. In x.0 (V.pasts z).answers) same x.2.1 in
      let u : x.0.number ≡ p.id.number = x.2.2 in
      let v : y.0.number ≡ q.id.number = y.2.2 in
      let s : x.0.reply.place ≡ p.place = x.4 in
      let t : y.0.reply.place ≡ q.place = y.4 in
      elim (cases_order x.0.number y.0.number) [
        | inl e ↦ let z = ap (λ (a : PastAnswer). a.reply.place) (O.once x.0 y.0 mine y.2.1 e) in omega (arith, z, s, t)
        | inr h ↦ elim h [
          | inl less ↦ let z = O.places x.0 y.0 mine y.2.1 less in omega (arith, z, s, t)
          | inr more ↦ absurd (omega (arith, more, u, v, le))
        ]
      ]

  pub came : (id : OpId) (a : PastAnswer) (d : PastCall) → IsPastAnswer n V.pasts id a → IsPastCall n V.pasts id d
      → slice_get (V.pasts id.process).calls a.number ≡ Some d → (o : Option Stamp) → d.cast ≡ o
      → Came R id d.op a.reply.place
  came id a d given call at None none =
      FromCopy (in_at (record { id = id; place = a.reply.place }) W.reads (J.reads id a d given call none))
      (λ up. false≢true (sym (F.copied id.process a.number d at none) ∙ up))
  came id a d given call at (Some stamp) made =
      let H = G.right id.process a given.0 given.1 in
      let same : H.0 ≡ d = same_Some H.0 d (sym H.1 ∙ at) in
      let there : Stands (casts_of V.order) (V.pasts id.process).calls a.number a.reply.place d (Some stamp) =
      subst (Stands (casts_of V.order) (V.pasts id.process).calls a.number a.reply.place d) made (subst (λ (z : PastCall). Stands (casts_of V.order) (V.pasts id.process).calls a.number a.reply.place z z.cast) same H.4) in
      let its : Cast = record { stamp = stamp; id = id; op = d.op } in
      let stood : ((k : ℕ) × IsAt W.casts k its) = in_at its W.casts (J.casts id d stamp call made) in
      elim there [
        | inl done ↦ AtOnce its stood refl (λ m k. done m ∙ sym (done k))
        | inr placed ↦
            let c = from_trace a.reply.place (cast_of stamp d.op) placed in
            AtDelivery c.0 c.1 (one_id (cast_of_first c.0) its (first_at a.reply.place c.0 c.1) stood (ap (λ (z : Delivered). z.stamp) c.2))
      ]

  -- an answer with its call: within the order, how it came, and that it is the memory's
  pub told_reply : (id : OpId) (a : PastAnswer) (d : PastCall) → IsPastAnswer n V.pasts id a → IsPastCall n V.pasts id d
      → (a.reply.place ≤ length W.order) × Came R id d.op a.reply.place
      × (a.reply.answer ≡ answer_of d.op (memory_of R a.reply.place))
  told_reply id a d given call =
      let p = id.process in
      let at : slice_get (V.pasts p).calls a.number ≡ Some d = subst (λ k. slice_get (V.pasts p).calls k ≡ Some d) (sym given.2) call.1 in
      let f = F.answered p a d given.0 given.1 at in
      ((let z = f.0 in let u = ap length same_casts in let m = length-map W.order delivered_of in omega (arith, z, u, m)), came id a d given call at d.cast refl, f.1 ∙ ap (answer_of d.op) (same_memory a.reply.place))

  replied : (id : OpId) (s t : ℕ) (op : Op) (answer : Answer) → IsCalled W.history id s op → IsAnswered W.history id t answer → (place : ℕ) × Came R id op place × (answer ≡ answer_of op (memory_of R place))
  replied id s t op answer call answered =
      let x = J.called s id op (at_in (Called s id op) W.history call) in
      let y = J.answered t id answer (at_in (Answered t id answer) W.history answered) in
      let f = told_reply id y.0 x.0 y.1 x.1 in
      let place = y.0.reply.place in
      (place, subst (λ o. Came R id o place) x.2 f.1, sym y.3 ∙ (f.2 ∙ ap (λ o. answer_of o (memory_of R place)) x.2))

  pub ordered : IsOrdered R
  ordered = record {
    rising = λ i j a b at bt less. F.rising i j (delivered_of a) (delivered_of b) (in_trace i a at) (in_trace j b bt) less;
    delivered = first_at;
    waiting = λ d i h k c at. let x = call_at d i in F.waiting d.id.process d.id.number (as_delivered d) x.0 x.1 (waits d i h) k (delivered_of c) (in_trace k c at);
    one_cast = one_cast;
    own_casts = own_casts;
    called = was_called;
    copies = copies;
    places = places;
    replied = replied;
  }

  pub is_run : IsRun R
  is_run = ordered_is_run n registers R K.history ordered
