-- Where every operation is cast, first deliveries lie between call and answer.
use Rattle.std.proofs.Common.{◌≡◌, ℕ, zero, suc, ◌<◌, ◌≤◌, List, [], ◌∷◌, map, Option, Some, None, refl, sym, ap, ◌∙◌}
use Rattle.std.proofs.Common.{subst, inl, inr, arith}
use Rattle.std.specs.Prelude.{slice_get}
use Rattle.std.proofs.lemmas.Option.{same_Some, none-some}
use Rattle.reg_base.specs.declared.stamps.Stamp.{Stamp}
use Rattle.reg_base.specs.declared.memory.Op.{Op}
use Rattle.reg_base.specs.declared.memory.OpId.{OpId}
use Rattle.reg_base.specs.declared.stamps.Delivered.{Delivered}
use Rattle.reg_base.specs.Order.{In}
use Rattle.reg_front.specs.declared.starts.Start.{Start}
use Rattle.reg_front.specs.Fronts.{KeepsLaws, CastsAll}
use Rattle.reg_process.specs.declared.steps.Step.{Step}
use Rattle.reg_process.specs.declared.steps.Step.TheVariants.{Call, Take, Tick}
use Rattle.reg_process.specs.Process.{State, called, unsettled, step}
use Rattle.reg_checkers.specs.declared.entries.Entry.TheVariants.{Called, Answered}
use Rattle.reg_checkers.specs.History.{IsAt}
use Rattle.reg_process.specs.declared.events.Event.{Event}
use Rattle.reg_world.specs.declared.order.First.{First}
use Rattle.reg_world.specs.Runs.{Cast}
use Rattle.reg_world.specs.World.{World}
use Rattle.reg_world.proofs.run.Traced.{Called as PastCall, Answered as PastAnswer, First as PastFirst, Trace}
use Rattle.reg_world.proofs.run.Traced.{called_in, NeverFalls, TimesRight, plain}
use Rattle.reg_world.proofs.witness.Times.{laws_of, times_right}
use Rattle.reg_world.proofs.one_memory.Copied.{each_call}
use Rattle.reg_world.proofs.lists.Bodies.{place_in}
use Rattle.reg_world.proofs.lists.Members.{in_at, at_in, in_map, map_in}
use Rattle.reg_world.proofs.one_memory.Joined.{Joined}
use Rattle.reg_world.proofs.one_memory.Added.{IsPastCall, IsPastAnswer, cast_of_first}
use Rattle.reg_world.proofs.one_memory.Kept.{call_of}
use Rattle.reg_world.proofs.witness.Once.{order_once}
use Rattle.reg_world.proofs.witness.Premises.{W, V, R, J, G, first_at, one_id, is_run}
use Rattle.reg_checkers.proofs.Places.{same_at}
use Rattle.reg_world.proofs.witness.Grounds.{IsRealTime}

abbrev MadeCast : PastCall → Type 0
MadeCast d = d.cast ≡ None → ⊥

step_casts : (start : Op → ℕ → Start) → CastsAll start → (at : ℕ) (s : State) (e : Step) (d : PastCall)
    → In d (called_in at e (step start s e).1.cast) → MadeCast d
step_casts start all at s (Call op) =
    subst (λ st. (d : PastCall) → In d (called_in at (Call op) (called s op st).1.cast) → MadeCast d) (sym (all op (unsettled s)))
    (λ d i. elim i [ inl e ↦ (λ none. none-some _ (sym none ∙ ap (λ (z : PastCall). z.cast) e)) | inr f ↦ absurd f ])
step_casts start all at s (Take a f) = λ d i. absurd i
step_casts start all at s Tick = λ d i. absurd i

falls_never : (fs : List PastFirst) (i j : ℕ) (a b : PastFirst) → NeverFalls fs → slice_get fs i ≡ Some a
    → slice_get fs j ≡ Some b → i < j → a.at ≤ b.at
falls_never [] i j a b h p q l = absurd (none-some a p)
falls_never (f ∷ fs) i zero a b h p q l = absurd (omega arith)
falls_never (f ∷ fs) zero (suc j) a b h p q l =
    subst (λ (z : PastFirst). z.at ≤ b.at) (same_Some f a p) (h.0 b (place_in fs j b q))
falls_never (f ∷ fs) (suc i) (suc j) a b h p q l = falls_never fs i j a b h.1 p q (omega arith)

plain_at : (fs : List First) (k : ℕ) (c : First) → IsAt fs k c → slice_get (map plain fs) k ≡ Some (plain c)
plain_at [] k c h = absurd (none-some c h)
plain_at (f ∷ fs) zero c h = ap (λ z. Some (plain z)) (same_Some f c h)
plain_at (f ∷ fs) (suc k) c h = plain_at fs k c h

module _ (start : Op → ℕ → Start) (n registers : ℕ) (all : CastsAll start) (events : List Event) where
  abbrev laws : KeepsLaws start
  laws = laws_of start all

  abbrev w : World
  w = W start n registers laws events

  abbrev v : Trace
  v = V start n registers laws events

  T : TimesRight n v.order v.pasts
  T = times_right start n registers events all

  j : Joined n w v.pasts
  j = J start n registers laws events

  has_cast : (id : OpId) (d : PastCall) → IsPastCall n v.pasts id d → (o : Option Stamp) → d.cast ≡ o → (stamp : Stamp) × (d.cast ≡ Some stamp)
  has_cast id d h None none = absurd (each_call MadeCast start (step_casts start all) n registers events id.process id.number d h.1 none)
  has_cast id d h (Some stamp) made = (stamp, made)

  -- the first delivery of an answered operation's cast, not after the answer
  delivered : (id : OpId) (a : PastAnswer) → IsPastAnswer n v.pasts id a → (k : ℕ) × (c : First) × IsAt w.order k c × (c.id ≡ id) × (c.at ≤ a.at)
  delivered id a h =
      let d = call_of n registers v (G start n registers laws events).right id a h in
      let s = has_cast id d.0 d.1 d.0.cast refl in
      let at : slice_get (v.pasts id.process).calls a.number ≡ Some d.0 = subst (λ k. slice_get (v.pasts id.process).calls k ≡ Some d.0) (sym h.2) d.1.1 in
      let f = T.before_answer id.process a d.0 s.0 h.0 h.1 at s.1 in
      let g = map_in plain f.0 w.order f.1 in
      let c = g.0 in
      let place = in_at c w.order g.1 in
      let its : Cast = record { stamp = s.0; id = id; op = d.0.op } in
      let stamps : c.stamp ≡ s.0 = ap (λ (z : PastFirst). z.cast.stamp) (sym g.2) ∙ ap (λ (z : Delivered). z.stamp) f.2 in
      let ids : c.id ≡ id = one_id start n registers laws events (cast_of_first c) its (first_at start n registers laws events place.0 c place.1) (in_at its w.casts (j.casts id d.0 s.0 d.1 s.1)) stamps in
      let late : c.at ≤ a.at = subst (λ (z : PastFirst). z.at ≤ a.at) g.2 f.3 in
      (place.0, c, place.1, ids, late)

  pub is_real_time : IsRealTime (R start n registers laws events)
  is_real_time = record {
    all_delivered = λ id fin.
        let y = j.answered fin.0 id fin.1 (at_in (Answered fin.0 id fin.1) w.history fin.2) in
        let r = delivered id y.0 y.1 in
        (r.0, r.1, r.2, r.3);
    after_call = λ k c at op here call.
        let x = j.called at c.id op (at_in (Called at c.id op) w.history call) in
        let m = j.cast (cast_of_first c) (j.first c (place_in w.order k c here)) in
        let same : m.0 ≡ x.0 = same_Some m.0 x.0 (sym m.1.1 ∙ x.1.1) in
        let z = T.after_call c.id.process c.id.number x.0 (plain c) x.1.0 x.1.1 (in_map plain c w.order (place_in w.order k c here)) (sym (ap (λ (d : PastCall). d.cast) same) ∙ m.2) in
        let u = x.3 in
        omega (arith, z, u);
    before_answer = λ k c at answer here answered.
        let y = j.answered at c.id answer (at_in (Answered at c.id answer) w.history answered) in
        let r = delivered c.id y.0 y.1 in
        let place : r.0 ≡ k = order_once (R start n registers laws events) (is_run start n registers laws events) r.0 k r.1 c r.2 here r.3 in
        let same : r.1 ≡ c = same_at w.order k r.1 c (subst (λ i. IsAt w.order i r.1) place r.2) here in
        let z = r.4 in
        let u = ap (λ (f : First). f.at) same in
        let s = y.2 in
        omega (arith, z, u, s);
    never_falls = λ i k a b at bt less.
        falls_never v.order i k (plain a) (plain b) T.never_falls
        (plain_at w.order i a at) (plain_at w.order k b bt) less;
  }
