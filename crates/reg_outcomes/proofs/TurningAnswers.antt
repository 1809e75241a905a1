-- After a turn the memory and the answer are those of one memory.
use Rattle.std.proofs.Common.{◌≡◌, ℕ, ◌+◌, false, List, [], ◌∷◌, ◌++◌, length, map, take, replicate, Some, None, refl}
use Rattle.std.proofs.Common.{sym, ap, ◌∙◌, subst, inl, inr, arith, length-append, append_assoc, append-nil}
use Rattle.std.specs.Prelude.{slice_get}
use Rattle.std.proofs.lemmas.Bool.{false≢true}
use Rattle.std.proofs.lemmas.List.{take_at}
use Rattle.reg_base.specs.declared.memory.Answer.TheVariants.{Done}
use Rattle.reg_base.specs.declared.memory.Op.{Op}
use Rattle.reg_base.specs.declared.memory.Op.TheVariants.{Read, Write, Swap, CompareAndSwap}
use Rattle.reg_base.specs.declared.memory.OpId.{OpId}
use Rattle.reg_base.specs.declared.stamps.Stamp.{Stamp}
use Rattle.reg_base.specs.Memory.{Memory, memory, answer_of, after, updates}
use Rattle.reg_base.specs.Order.{In}
use Rattle.reg_base.proofs.Lists.{in_right}
use Rattle.reg_front.specs.declared.starts.Start.{Start}
use Rattle.reg_front.specs.declared.starts.Start.TheVariants.{Cast as Casts, CastAndAnswer as CastsAndAnswers}
use Rattle.reg_front.specs.declared.starts.Start.TheVariants.{Look as Looks, Hold as Holds}
use Rattle.reg_front.specs.Fronts.{MayStart, KeepsLaws}
use Rattle.reg_process.specs.declared.events.Event.{Event}
use Rattle.reg_process.specs.declared.events.Event.TheVariants.{Call}
use Rattle.reg_process.specs.declared.steps.Step.{Step}
use Rattle.reg_process.specs.declared.steps.Step.TheVariants.{Call as CallStep}
use Rattle.reg_process.specs.Process.{State, Outcome, called, step, stamp_at, look, done_at_once, unsettled}
use Rattle.reg_checkers.specs.declared.entries.Entry.TheVariants.{Called, Answered}
use Rattle.reg_checkers.specs.History.{IsAt, IsCalled, WasCalled, MayCall}
use Rattle.reg_world.specs.declared.order.First.{First}
use Rattle.reg_world.specs.Nodes.{unseen}
use Rattle.reg_world.specs.Promises.{RepliesRight}
use Rattle.reg_world.specs.Runs.{Cast, memory_of}
use Rattle.reg_world.specs.World.{World, Replied, op_id, cast_in, casts_in, first_of, delivered_of, moved, run_of}
use Rattle.reg_world.specs.World.{whole}
use Rattle.reg_world.proofs.lists.Bodies.{place_split, place_within}
use Rattle.reg_world.proofs.lists.Members.{in_at, map_append}
use Rattle.reg_world.proofs.one_memory.Replicas.{memory-append}
use Rattle.reg_world.proofs.witness.Promised.{in_place, order_right, replies_right}
use Rattle.reg_records.specs.Rest.{CanRest}
use Rattle.reg_records.proofs.GoingOn.{at_behind}
use Rattle.reg_outcomes.specs.Turning.{MayTurn}
use Rattle.reg_outcomes.proofs.TurningMoves.{Follows}
use Rattle.reg_outcomes.proofs.TurningOrder.{made_as, order_kept, order_more}
use Rattle.reg_outcomes.proofs.TurningRest.{copy_is, none_unsettled}
use Rattle.reg_outcomes.proofs.TurningTurn.{TurnTold, called_is, quiet_more, told}

-- the memory after a run, and the answer of its last operation
abbrev pub memory_after_run : ℕ → World → Memory
memory_after_run registers w = memory registers (map (λ (f : First). f.op) w.order)

order_grows : (start : Op → ℕ → Start) (w : World) (e : Event) (m : ℕ × Step)
    → (rest : List First) × ((moved start w e (Some m)).order ≡ w.order ++ rest)
order_grows start w e m =
    let r = step start (w.nodes m.0).state m.1 in
    (map (first_of (w.casts ++ casts_in (op_id m.0 (w.nodes m.0).state.calls) m.1 r.1.cast) (length w.accepted)) (unseen (map delivered_of w.order) r.1.delivered), refl)

no_update : (op : Op) (m : Memory) → updates op ≡ false → m ≡ after op m
no_update (Read k) m e = refl
no_update (Write k x) m e = absurd (false≢true (sym e))
no_update (Swap k x) m e = absurd (false≢true (sym e))
no_update (CompareAndSwap k x y) m e = absurd (false≢true (sym e))

module _ (start : Op → ℕ → Start) (n registers : ℕ) (laws : KeepsLaws start) (events : List Event) (p : ℕ) (op : Op) (M : MayTurn start n registers events p op) (R : CanRest start n registers (events ++ Call p op ∷ [])) where
  abbrev w : World
  w = whole start n registers events

  abbrev u : World
  u = whole start n registers (events ++ Call p op ∷ [])

  abbrev all : List Event
  all = (events ++ Call p op ∷ []) ++ R.more

  abbrev v : World
  v = whole start n registers all

  abbrev S : State
  S = (w.nodes p).state

  abbrev r : State × Outcome
  r = step start S (CallStep op)

  abbrev id : OpId
  id = op_id p S.calls

  abbrev at : ℕ
  at = length w.accepted

  F : Follows n p u v
  F = quiet_more start n registers laws events p op M R

  abbrev T : TurnTold p op r.1.reply w v
  T = told start n registers laws events p op M R

  moved_is : u ≡ moved start w (Call p op) (Some (p, CallStep op))
  moved_is = called_is start n registers laws events p op M

  casts_is : v.casts ≡ w.casts ++ cast_in id op r.1.cast
  casts_is = F.casts ∙ ap (λ (z : World). z.casts) moved_is

  grown : (rest : List First) × (v.order ≡ w.order ++ rest)
  grown =
      let first = order_grows start w (Call p op) (p, CallStep op) in
      (first.0 ++ F.order.0, F.order.1 ∙ ap (λ l. l ++ F.order.0) (ap (λ (z : World). z.order) moved_is ∙ first.1) ∙ append_assoc w.order first.0 F.order.0)

  call_here : IsAt v.history (length w.history + 0) (Called at id op)
  call_here = ap (λ h. slice_get h (length w.history + 0)) T.history ∙ at_behind w.history (Called at id op ∷ Answered T.later id T.answer ∷ []) 0

  answer_here : IsAt v.history (length w.history + 1) (Answered T.later id T.answer)
  answer_here = ap (λ h. slice_get h (length w.history + 1)) T.history ∙ at_behind w.history (Called at id op ∷ Answered T.later id T.answer ∷ []) 1

  -- the operation was not called before
  not_called : WasCalled w.history id → ⊥
  not_called before =
      let C : MayCall n registers (take (length w.history + 0) v.history) at id op = in_place start n registers laws all (length w.history + 0) (Called at id op) call_here in
      let same : take (length w.history + 0) v.history ≡ w.history = ap (take (length w.history + 0)) T.history ∙ take_at w.history (Called at id op ∷ Answered T.later id T.answer ∷ []) (length w.history + 0) (omega arith) in
      let less = (C.next S.calls).1 (subst (λ h. WasCalled h id) (sym same) before) in
      omega (arith, less)

  module _ (m : Memory) (is : memory_after_run registers w ≡ m) where
    -- without a cast
    kept_memory : r.1.cast ≡ None → memory_after_run registers v ≡ m
    kept_memory none =
        let same : v.casts ≡ w.casts = casts_is ∙ ap (λ o. w.casts ++ cast_in id op o) none ∙ append-nil w.casts in
        let no_more = order_kept start n registers p laws M.process events all M.none grown.0 grown.1 same in
        ap (λ fs. memory registers (map (λ (f : First). f.op) fs)) (grown.1 ∙ ap (λ l. w.order ++ l) no_more ∙ append-nil w.order) ∙ is

    module _ (stamp : Stamp) (made : r.1.cast ≡ Some stamp) (time : stamp.time ≡ S.clock + 1) where
      abbrev c : Cast
      c = record { stamp = stamp; id = id; op = op }

      one_cast : v.casts ≡ w.casts ++ c ∷ []
      one_cast = casts_is ∙ ap (λ o. w.casts ++ cast_in id op o) made

      one_first : (f : First) × (grown.0 ≡ f ∷ []) × (made_as f ≡ c)
      one_first = order_more start n registers p laws M.process events all M.none grown.0 grown.1 c one_cast R.acknowledged time

      order_is : v.order ≡ w.order ++ one_first.0 ∷ []
      order_is = grown.1 ∙ ap (λ l. w.order ++ l) one_first.1

      -- with one
      pub cast_memory : memory_after_run registers v ≡ after op m
      cast_memory =
          ap (λ fs. memory registers (map (λ (f : First). f.op) fs)) order_is
          ∙ ap (memory registers) (map_append (λ (f : First). f.op) w.order (one_first.0 ∷ []))
          ∙ memory-append (map (λ (f : First). f.op) w.order) (one_first.0.op ∷ []) (replicate registers 0)
          ∙ ap (after one_first.0.op) is
          ∙ ap (λ (d : Cast). after d.op m) one_first.2

      -- the place of the cast is behind those of before
      place_is : (place : ℕ) (f : First) → IsAt v.order place f → f.id ≡ id → length w.order ≡ place
      place_is place f here same = elim (place_split w.order (one_first.0 ∷ []) place f (ap (λ l. slice_get l place) (sym order_is) ∙ here)) [
        | inl before ↦
            let before_call = (order_right start n registers laws events).called place f before in
            absurd (not_called (before_call.0, f.op, subst (λ i. IsCalled w.history i before_call.0 f.op) same before_call.1))
        | inr behind ↦
            let within = place_within v.order place f here in
            let size = ap length order_is in
            let one = length-append w.order (one_first.0 ∷ []) in
            let least = behind.0 in
            omega (arith, within, size, one, least)
      ]

      -- so the answer is that of the memory before
      pub cast_answer : T.answer ≡ answer_of op m
      cast_answer =
          let P : RepliesRight start n registers v = replies_right start n registers laws all in
          let found = P.all id T.later T.answer (length w.history + 1, answer_here) in
          let y : Replied = found.0 in
          let call : IsCalled v.history y.id at op = subst (λ i. IsCalled v.history i at op) (sym found.2) (length w.history + 0, call_here) in
          let right = P.right y at op found.1 call in
          let there : (k : ℕ) × IsAt v.casts k c = in_at c v.casts (subst (In c) (sym one_cast) (in_right c w.casts (c ∷ []) (inl refl))) in
          sym found.4 ∙ right ∙ elim (P.own y c at op found.1 there (sym found.2) call) [
            | inl first ↦
                let known = unsettled ((whole start n registers (take at v.accepted)).nodes y.id.process).state in
                let blind : (x : Memory) → answer_of op x ≡ Done = subst (MayStart op known) first.1 (laws op known) in
                blind (memory_of (run_of registers v) y.reply.place) ∙ sym (blind m)
            | inr own ↦
                let place = place_is y.reply.place own.0 own.1 (own.2 ∙ found.2) in
                ap (λ fs. answer_of op (memory registers (map (λ (f : First). f.op) fs))) (ap (take y.reply.place) order_is ∙ take_at w.order (one_first.0 ∷ []) y.reply.place place)
                ∙ ap (answer_of op) is
          ]

    -- the memory and the answer, however the operation starts
    pub right_as : (st : Start) → start op (unsettled S) ≡ st → MayStart op (unsettled S) st → (T.answer ≡ answer_of op m) × (memory_after_run registers v ≡ after op m)
    right_as Casts e may =
        let made = ap (λ z. (called S op z).1.cast) e in
        (cast_answer (stamp_at (S.clock + 1) S.me) made refl, cast_memory (stamp_at (S.clock + 1) S.me) made refl)
    right_as CastsAndAnswers e may =
        let made = ap (λ z. (called S op z).1.cast) e in
        (T.now (done_at_once S) (ap (λ z. (called S op z).1.reply) e) ∙ sym (may m), cast_memory (stamp_at (S.clock + 1) S.me) made refl)
    right_as Looks e may =
        let none = ap (λ z. (called S op z).1.cast) e in (
          T.now (look S op) (ap (λ z. (called S op z).1.reply) e) ∙ ap (answer_of op) (copy_is start n registers laws events M.none p M.process ∙ is),
          kept_memory none ∙ no_update op m may.0,
        )
    right_as Holds e may = let zero = none_unsettled start n registers laws events M.none p M.process in let some = may.1 in absurd (omega (arith, zero, some))

    pub turn_right : (T.answer ≡ answer_of op m) × (memory_after_run registers v ≡ after op m)
    turn_right = right_as (start op (unsettled S)) refl (laws op (unsettled S))
