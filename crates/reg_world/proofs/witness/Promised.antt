-- The promises of every run.
use Rattle.std.proofs.Common.{◌≡◌, ℕ, ◌≤◌, ◌⊎◌, List, [], ◌∷◌, length, map, Some, refl, sym, ap, ◌∙◌, subst, inl, inr}
use Rattle.std.specs.Prelude.{slice_get}
use Rattle.std.proofs.lemmas.Option.{same_Some}
use Rattle.reg_base.specs.declared.memory.Op.{Op}
use Rattle.reg_base.specs.declared.stamps.Delivered.{Delivered}
use Rattle.reg_base.specs.declared.memory.OpId.{OpId}
use Rattle.reg_base.specs.Memory.{answer_of}
use Rattle.reg_base.specs.Order.{In, IsPrefixOf}
use Rattle.reg_front.specs.declared.starts.Start.{Start}
use Rattle.reg_front.specs.Fronts.{KeepsLaws}
use Rattle.reg_process.specs.declared.steps.Reply.{Reply}
use Rattle.reg_checkers.specs.declared.entries.Entry.TheVariants.{Called, Answered}
use Rattle.reg_checkers.specs.History.{IsAt, IsHistory}
use Rattle.reg_process.specs.declared.events.Event.{Event}
use Rattle.reg_world.specs.declared.order.First.{First}
use Rattle.reg_world.specs.Laws.{IsMade, NoRefusal, AllAcknowledged, IsQuiescent}
use Rattle.reg_world.specs.NodeParts.{NothingPending}
use Rattle.reg_world.specs.Runs.{memory_of}
use Rattle.reg_world.specs.Promises.{OrderIsLongest, OrderIsRight, CastsRight, RepliesRight, IsAnsweredFirst}
use Rattle.reg_world.specs.World.{World, Replied, delivered_of, run_of}
use Rattle.reg_world.proofs.run.Traced.{Called as PastCall, Trace, casts_of, cast_of}
use Rattle.reg_world.proofs.one_order.Wholes.{whole_inv, order_is_longest}
use Rattle.reg_world.proofs.one_memory.Placed.{all_seated}
use Rattle.reg_world.proofs.one_order.Settled.{quiescent, none_on_link}
use Rattle.reg_world.proofs.lists.Bodies.{place_in, place_first}
use Rattle.reg_base.proofs.Lists.{in_cases}
use Rattle.reg_world.proofs.one_order.Worlds.{delivered_made, held_made}
use Rattle.reg_world.proofs.lists.Members.{in_at, at_in, map_in}
use Rattle.reg_world.proofs.one_memory.Joined.{Joined}
use Rattle.reg_world.proofs.one_memory.Added.{cast_of_first, IsPastCall}
use Rattle.reg_world.proofs.one_memory.Kept.{call_of}
use Rattle.reg_world.proofs.witness.Premises.{W, V, J, G, K, same_casts, first_at, ordered, told_reply, one_id}
use Rattle.reg_world.proofs.witness.Premises.{from_trace}
use Rattle.reg_world.proofs.one_order.NodeLaws.{inv_of, no_refusal}

module _ (start : Op → ℕ → Start) (n registers : ℕ) (laws : KeepsLaws start) (events : List Event) where
  abbrev w : World
  w = W start n registers laws events

  abbrev v : Trace
  v = V start n registers laws events

  pub none_refused : NoRefusal n registers w.nodes
  none_refused = no_refusal start n registers events

  pub settled : NothingPending n w.nodes → IsQuiescent n w.nodes
  settled none = quiescent start n registers events laws none

  pub rests : AllAcknowledged n w.nodes → IsQuiescent n w.nodes
  rests all = settled (λ p q a b ne. none_on_link (w.nodes p).state.peers q (all p a))

  pub in_place : IsHistory n registers w.history
  in_place = (K start n registers laws events).history

  pub longest : OrderIsLongest n w
  longest =
      let L = order_is_longest start n registers events in
      let casts = sym (same_casts start n registers laws events) in
      record {
        each = λ p l. subst (IsPrefixOf (w.nodes p).deliveries) casts (L.each p l);
        one = λ l. let r = L.one l in (r.0, r.1, r.2 ∙ casts);
      }

  pub order_right : OrderIsRight n w
  order_right =
      let O = (whole_inv start n registers events).ordered in
      let casts = same_casts start n registers laws events in
      record {
        rising = (ordered start n registers laws events).rising;
        some = λ k f at.
            let i : In (delivered_of f) (map delivered_of w.order) = in_mapped f w.order (place_in w.order k f at) in
            let r = O.some (delivered_of f) (subst (In (delivered_of f)) casts i) in
            (r.0, r.1, r.2);
        all = λ q c l i.
            let j = subst (In c) (sym casts) (O.all q c l i) in
            let r = map_in delivered_of c w.order j in
            let place = in_at r.0 w.order r.1 in
            (place.0, r.0, place.1, sym r.2);
        called = λ k f at. (ordered start n registers laws events).called (cast_of_first f) (first_at start n registers laws events k f at);
        made = first_at start n registers laws events;
      }
    where
      in_mapped : (f : First) (fs : List First) → In f fs → In (delivered_of f) (map delivered_of fs)
      in_mapped f [] h = h
      in_mapped f (g ∷ fs) (inl e) = inl (ap delivered_of e)
      in_mapped f (g ∷ fs) (inr h) = inr (in_mapped f fs h)

  pub casts_right : CastsRight n w
  casts_right =
      let I = inv_of start n registers events in
      let k0 = length w.accepted in
      let j = J start n registers laws events in
      let P = (G start n registers laws events).pasts in
      record {
        made = λ c i.
            let x = j.cast c (at_in c w.casts i) in
            let p = c.id.process in
            let l = x.1.0 in
            let r = (P p l).0.casts c.id.number x.0 c.stamp x.1.1 x.2 in
            let is : cast_of c.stamp x.0.op ≡ record { stamp = c.stamp; op = c.op } = ap (cast_of c.stamp) x.3 in (
              subst (IsMade n v.nodes) is (elim (in_cases (cast_of c.stamp x.0.op) (v.nodes p).deliveries (v.nodes p).state.held r.1) [
                | inl h ↦ delivered_made n registers k0 v.nodes I p l (cast_of c.stamp x.0.op) h
                | inr h ↦ held_made n registers k0 v.nodes I p l (cast_of c.stamp x.0.op) h
              ]),
              r.0,
            );
        all = λ d m.
            let r = (G start n registers laws events).called d m in
            let id : OpId = record { process = d.stamp.process; number = r.0 } in
            let i = j.casts id r.1 d.stamp (m.0, r.2) r.3 in
            (id, in_at (record { stamp = d.stamp; id = id; op = d.op }) w.casts (subst (λ o. In (record { stamp = d.stamp; id = id; op = o }) w.casts) r.4 i));
        called = (ordered start n registers laws events).called;
        once = (ordered start n registers laws events).one_cast;
      }

  pub replies_right : RepliesRight start n registers w
  replies_right = record {
    answered = λ y i.
        let r = j.replied y (at_in y w.replies i) in
        in_at (Answered y.at y.id y.reply.answer) w.history (subst (λ (z : Reply). In (Answered y.at y.id z.answer) w.history) r.3 (subst (λ k. In (Answered k y.id r.0.reply.answer) w.history) r.2 (j.answers y.id r.0 r.1)));
    all = λ id at x h.
        let r = j.answered at id x (at_in (Answered at id x) w.history h) in
        let y : Replied = record { id = id; at = r.0.at; reply = r.0.reply } in
        (y, in_at y w.replies (j.replies id r.0 r.1), refl, r.2, r.3);
    within = λ y i.
        let r = j.replied y (at_in y w.replies i) in
        let d = call_of n registers v (G start n registers laws events).right y.id r.0 r.1 in
        let f = told_reply start n registers laws events y.id r.0 d.0 r.1 d.1 in
        subst (λ (z : Reply). z.place ≤ length w.order) r.3 f.0;
    right = λ y at op i call.
        let r = j.replied y (at_in y w.replies i) in
        let x = j.called at y.id op (at_in (Called at y.id op) w.history call) in
        let f = told_reply start n registers laws events y.id r.0 x.0 r.1 x.1 in
        subst (λ (z : Reply). z.answer ≡ answer_of op (memory_of (run_of registers w) z.place)) r.3 (f.2 ∙ ap (λ o. answer_of o (memory_of (run_of registers w) r.0.reply.place)) x.2);
    own = λ y c at op i k e call.
        let r = j.replied y (at_in y w.replies i) in
        let x = j.cast c (at_in c w.casts k) in
        let asked : IsPastCall n v.pasts y.id x.0 = subst (λ z. IsPastCall n v.pasts z x.0) e x.1 in
        let u = j.called at y.id op (at_in (Called at y.id op) w.history call) in
        let one : u.0 ≡ x.0 = same_Some u.0 x.0 (sym u.1.1 ∙ asked.1) in
        let when : x.0.at ≡ at = sym (ap (λ (z : PastCall). z.at) one) ∙ u.3 in
        let slot : slice_get (v.pasts y.id.process).calls r.0.number ≡ Some x.0 = subst (λ m. slice_get (v.pasts y.id.process).calls m ≡ Some x.0) (sym r.1.2) asked.1 in
        let which : x.0.op ≡ op = sym (ap (λ (z : PastCall). z.op) one) ∙ u.2 in
        let s = all_seated start n registers laws events y.id.process r.1.0 r.0 x.0 c.stamp r.1.1 slot x.2 in
        subst (λ (z : Reply). ((y.at ≡ at) × IsAnsweredFirst start n registers w y.id at op) ⊎ ((f : First) × IsAt w.order z.place f × (f.id ≡ y.id))) r.3
        (elim s [
          | inl here ↦ inl (sym r.2 ∙ (here.0 ∙ when), subst (λ k. IsAnsweredFirst start n registers w y.id k op) when (subst (IsAnsweredFirst start n registers w y.id x.0.at) which here.1))
          | inr there ↦
              let L = (order_is_longest start n registers events).each y.id.process r.1.0 in
              let whole_at : slice_get (casts_of v.order) r.0.reply.place ≡ Some (cast_of c.stamp x.0.op) =
              ap (λ l. slice_get l r.0.reply.place) (sym L.1) ∙ place_first (v.nodes y.id.process).deliveries L.0 r.0.reply.place (cast_of c.stamp x.0.op) there in
              let g = from_trace start n registers laws events r.0.reply.place (cast_of c.stamp x.0.op) whole_at in
              inr (g.0, g.1, one_id start n registers laws events (cast_of_first g.0) c (first_at start n registers laws events r.0.reply.place g.0 g.1) k (ap (λ (z : Delivered). z.stamp) g.2) ∙ e)
        ]);
  }
    where
      j : Joined n w v.pasts
      j = J start n registers laws events
