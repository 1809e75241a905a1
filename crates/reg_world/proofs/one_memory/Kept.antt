-- Every run keeps what is told of it in step with the pasts, and its history in place.
use Rattle.std.proofs.Common.{◌≡◌, ℕ, ◌≤◌, List, [], ◌∷◌, ◌++◌, length, take, replicate, Option, Some, None, refl, sym}
use Rattle.std.proofs.Common.{ap, ◌∙◌, subst, inl, inr, arith, length-append}
use Rattle.std.specs.Prelude.{slice_get}
use Rattle.std.proofs.lemmas.Bool.{cases_order}
use Rattle.std.proofs.lemmas.Option.{none-some}
use Rattle.reg_base.specs.declared.stamps.Stamp.{Stamp}
use Rattle.reg_base.specs.declared.memory.Op.{Op}
use Rattle.reg_base.specs.declared.memory.OpId.{OpId}
use Rattle.reg_base.specs.Memory.{Memory, answer_of, memory_after}
use Rattle.reg_base.specs.Order.{In}
use Rattle.reg_front.specs.declared.starts.Start.{Start}
use Rattle.reg_front.specs.Fronts.{KeepsLaws}
use Rattle.reg_process.specs.declared.steps.Step.{Step}
use Rattle.reg_process.specs.Process.{step, ops_of}
use Rattle.reg_checkers.specs.History.{IsHistory}
use Rattle.reg_process.specs.declared.events.Event.{Event}
use Rattle.reg_world.specs.Nodes.{Node, Nodes, put, after_step}
use Rattle.reg_world.specs.Laws.{DeliveriesMade}
use Rattle.reg_base.specs.declared.limits.TheConstants.{MOST_EVENTS}
use Rattle.reg_world.specs.World.{World, op_id, move_of, moved, whole}
use Rattle.reg_world.proofs.run.Traced.{Called as PastCall, Answered as PastAnswer, Past, Trace, casts_of, pasts_after}
use Rattle.reg_world.proofs.run.Traced.{HistoryRight, CastsCalled, traced, after}
use Rattle.reg_base.proofs.Lists.{in_right}
use Rattle.reg_world.proofs.one_order.NodeEvents.{put_same}
use Rattle.reg_world.proofs.one_order.NodeLaws.{deliveries_made}
use Rattle.reg_world.proofs.one_memory.History.{PastsOk, whole_pasts, history_right}
use Rattle.reg_world.proofs.one_memory.Turns.{AllPlaces, all_places, step_fits}
use Rattle.reg_world.proofs.one_memory.Named.{casts_called}
use Rattle.reg_world.proofs.one_order.Allowed.{Allowed, allowed, AllAnswered, all_answered}
use Rattle.reg_world.proofs.one_memory.Joined.{Joined, joined_now}
use Rattle.reg_world.proofs.one_memory.Added.{IsPastCall, IsPastAnswer, same_op_id}
use Rattle.reg_world.proofs.one_memory.InPlace.{history_now}
use Rattle.reg_world.proofs.run.Along.{move_is, one_more, traced_more}
use Rattle.reg_world.proofs.lists.Members.{from_end}

-- what is known of the trace of a run
pub record Known (n registers : ℕ) (v : Trace) : Type 0 where
  pub pasts : PastsOk n v
  pub places : AllPlaces n v
  pub answered : AllAnswered n v
  pub right : HistoryRight n registers v
  pub called : CastsCalled n v
  pub deliveries : DeliveriesMade n v.nodes

pub known : (start : Op → ℕ → Start) (n registers : ℕ) → KeepsLaws start → (events : List Event)
    → Known n registers (traced start n registers events)
known start n registers laws events = record {
  pasts = whole_pasts start n registers events laws;
  places = all_places start n registers events laws;
  answered = all_answered start n registers events;
  right = history_right start n registers events laws;
  called = casts_called start n registers events;
  deliveries = deliveries_made start n registers events;
}

-- one call makes the cast of a stamp
pub one_stamp : (n : ℕ) (v : Trace) → PastsOk n v → (a b : OpId) (d f : PastCall) (stamp : Stamp)
    → IsPastCall n v.pasts a d → IsPastCall n v.pasts b f → d.cast ≡ Some stamp → f.cast ≡ Some stamp → a ≡ b
one_stamp n v P a b d f stamp h g c k =
    let x = (P a.process h.0).0 in
    let y = (P b.process g.0).0 in
    let process : a.process ≡ b.process = sym (x.casts a.number d stamp h.1 c).0 ∙ (y.casts b.number f stamp g.1 k).0 in
    let there : slice_get (v.pasts a.process).calls b.number ≡ Some f = subst (λ z. slice_get (v.pasts z).calls b.number ≡ Some f) (sym process) g.1 in
    same_op_id a b process (elim (cases_order a.number b.number) [
      | inl e ↦ e
      | inr q ↦ elim q [
        | inl less ↦ let z = x.rises a.number b.number d f stamp stamp h.1 there c k less in absurd (omega (arith, z))
        | inr more ↦ let z = x.rises b.number a.number f d stamp stamp there h.1 k c more in absurd (omega (arith, z))
      ]
    ])

-- an answer's call, and the memory that it is of
pub call_of : (n registers : ℕ) (v : Trace) → HistoryRight n registers v → (id : OpId) (a : PastAnswer)
    → IsPastAnswer n v.pasts id a
    → (d : PastCall) × IsPastCall n v.pasts id d × ((m : Memory) × (a.reply.answer ≡ answer_of d.op m))
call_of n registers v H id a h =
    let r = H id.process a h.0 h.1 in
    (r.0, (h.0, subst (λ k. slice_get (v.pasts id.process).calls k ≡ Some r.0) h.2 r.1), (memory_after (ops_of (take a.reply.place (casts_of v.order))) (replicate registers 0), r.3))

-- What is told of a run, in step with the pasts.
pub record Kept (n registers : ℕ) (w : World) (pasts : ℕ → Past) : Type 0 where
  pub few : length w.accepted ≤ MOST_EVENTS
  pub joined : Joined n w pasts
  pub history : IsHistory n registers w.history

module _ (start : Op → ℕ → Start) (n registers : ℕ) (laws : KeepsLaws start) where
  abbrev IsKept : List Event → Type 0
  IsKept events = Kept n registers (whole start n registers events) (traced start n registers events).pasts

  kept_step : (events : List Event) (e : Event) (m : ℕ × Step) → IsKept events → move_of n registers (whole start n registers events) e ≡ Some m
      → Kept n registers (moved start (whole start n registers events) e (Some m)) (pasts_after start (traced start n registers events) (Some m))
  kept_step events e m K is =
      let w = whole start n registers events in
      let v : Trace = traced start n registers events in
      let found = move_is n registers w e m is in
      let now : traced start n registers (events ++ e ∷ []) ≡ after start v (Some m) = traced_more start n registers events e ∙ ap (after start v) is in
      let A : Allowed n registers w.nodes (Some m) = subst (Allowed n registers w.nodes) found.1 (allowed n registers w.nodes e) in
      let F : Known n registers v = known start n registers laws events in
      let G : Known n registers (after start v (Some m)) = subst (Known n registers) now (known start n registers laws (events ++ e ∷ [])) in
      let p = m.0 in
      let st = m.1 in
      let y = after_step start (w.nodes p) st in
      let nodes : Nodes = put w.nodes p y in
      let numbers = (F.pasts p A.0).0.count in
      let right = call_of n registers (after start v (Some m)) G.right in
      let here : (nodes p).deliveries ≡ y.deliveries = ap (λ (z : Node). z.deliveries) (put_same w.nodes p y p refl) in
      let more = length-append w.accepted (e ∷ []) in
      let few = found.0 in
      record {
        few = omega (arith, more, few);
        joined = joined_now start n w v.pasts e p st A.0 numbers K.joined
            (λ c i.
            let c_made = G.deliveries p c A.0 (subst (In c) (sym here) (in_right c (w.nodes p).deliveries (step start (w.nodes p).state st).1.delivered i)) in
            let r = G.called c c_made in
            (op_id c.stamp.process r.0, r.1, (c_made.0, r.2), r.3, r.4))
            (one_stamp n (after start v (Some m)) G.pasts)
            (λ id a h. let r = call_of n registers v F.right id a h in (r.0, r.1))
            (λ id a h. let r = right id a h in (r.0, r.1));
        history = history_now start n registers w v.pasts e p st A.0 numbers K.joined A.1 few K.history F.answered (F.places p A.0).below
            (step_fits p (w.nodes p).state (w.nodes p).deliveries (v.pasts p) (F.pasts p A.0).0 start st) right;
      }

  pub kept_moved : (events : List Event) (e : Event) (m : Option (ℕ × Step)) → IsKept events
      → move_of n registers (whole start n registers events) e ≡ m
      → Kept n registers (moved start (whole start n registers events) e m) (pasts_after start (traced start n registers events) m)
  kept_moved events e None K is = K
  kept_moved events e (Some m) K is = kept_step events e m K is

  pub kept : (events : List Event) → IsKept events
  kept = from_end IsKept
      (record {
        few = omega arith;
        joined = record {
          called = λ at id op h. absurd h;
          calls = λ id d h. absurd (none-some d h.1);
          answered = λ at id x h. absurd h;
          answers = λ id a h. absurd h.1;
          replied = λ y h. absurd h;
          replies = λ id a h. absurd h.1;
          cast = λ c h. absurd h;
          casts = λ id d stamp h. absurd (none-some d h.1);
          first = λ f h. absurd h;
          read = λ q h. absurd h;
          reads = λ id a d h. absurd h.1;
          below = λ x h. absurd h;
        };
        history = λ k x h. absurd (none-some x h);
      })
      (λ events e K.
      let m = move_of n registers (whole start n registers events) e in
      let same : (traced start n registers (events ++ e ∷ [])).pasts ≡ pasts_after start (traced start n registers events) m = ap (λ (z : Trace). z.pasts) (traced_more start n registers events e) in
      subst (λ g. Kept n registers (whole start n registers (events ++ e ∷ [])) g) (sym same)
      (subst (λ (z : World). Kept n registers z (pasts_after start (traced start n registers events) m)) (sym (one_more start n registers events e)) (kept_moved events e m K refl)))
