-- The world after an event, from its parts.
use Rattle.std.proofs.Common.{◌≡◌, ℕ, ◌-◌, ◌<◌, false, List, [], ◌∷◌, ◌++◌, length, set, Option, Some, refl, sym, ap}
use Rattle.std.proofs.Common.{◌∙◌, subst, inl, inr, arith, length-set}
use Rattle.std.specs.Option.{is_some}
use Rattle.std.proofs.lemmas.Bool.{cases_eq}
use Rattle.reg_base.specs.declared.limits.TheConstants.{MOST_EVENTS}
use Rattle.reg_base.specs.declared.memory.Op.{Op}
use Rattle.reg_base.specs.declared.stamps.Stamp.{Stamp}
use Rattle.reg_base.specs.declared.stamps.Delivered.{Delivered}
use Rattle.reg_front.specs.declared.starts.Start.{Start}
use Rattle.reg_front.specs.Fronts.{KeepsLaws}
use Rattle.reg_process.specs.declared.steps.Reply.{Reply}
use Rattle.reg_process.specs.declared.steps.Step.{Step}
use Rattle.reg_process.specs.declared.steps.Step.TheVariants.{Call as CallStep, Take as TakeStep, Tick as TickStep}
use Rattle.reg_process.specs.Process.{State, Outcome, step}
use Rattle.reg_process.specs.Puts.{puts}
use Rattle.reg_checkers.specs.declared.entries.Entry.{Entry}
use Rattle.reg_checkers.specs.History.{IsAt, IsHistory}
use Rattle.reg_process.specs.declared.events.Event.{Event}
use Rattle.reg_world.specs.declared.order.First.{First}
use Rattle.reg_world.specs.declared.order.CopyRead.{CopyRead}
use Rattle.reg_world.specs.Nodes.{Node, step_of}
use Rattle.reg_world.specs.World.{World, op_id, calls_in, answers_in, move_of, moved, whole}
use Rattle.reg_world.specs.Tallies.{Tally}
use Rattle.reg_world.specs.Books.{tally_of, AreTallies}
use Rattle.reg_world.specs.Witnesses.{last_stamp}
use Rattle.reg_world.specs.Pages.{Pages, tally_after, tally_at, tallies_after, read_in, firsts_in, entries_after}
use Rattle.reg_world.specs.Pages.{entered, CallFits, MayEnter}
use Rattle.reg_world.specs.Sent.{sent}
use Rattle.reg_world.specs.Members.{Standing, listed, Acts}
use Rattle.reg_world.specs.WorldParts.{Tells, Stand, IsWorld, standing_of}
use Rattle.reg_world.proofs.one_order.Allowed.{Allowed, StepAllowed, allowed}
use Rattle.reg_world.specs.Histories.{Grows, More}
use Rattle.reg_world.proofs.code.Recorded.{grows}
use Rattle.reg_world.proofs.code.Sending.{sent_all}
use Rattle.reg_world.proofs.one_order.Acting.{sound}
use Rattle.reg_world.proofs.witness.Promised.{in_place}
use Rattle.reg_world.proofs.code.Growing.{next_is, node_here, node_there, tally_is, tallies_now, times_differ}
use Rattle.reg_world.proofs.code.Growing.{reads_now, casters_now, firsts_now, calls_are}
use Rattle.reg_world.proofs.lists.Changes.{at_set_same, at_set_other}
use Rattle.reg_world.proofs.run.Along.{move_is}

calls_fit : (registers : ℕ) (s : State) (st : Step) → StepAllowed registers s st → CallFits st s.calls
calls_fit registers s (CallStep op) A = A.2
calls_fit registers s (TakeStep from f) A = tt
calls_fit registers s TickStep A = tt

module _ (start : Op → ℕ → Start) (laws : KeepsLaws start) (b : Pages) (T : Tells start b) (e : Event) (p : ℕ) (st : Step)
    (move : move_of b.shape.processes b.shape.registers (whole start b.shape.processes b.shape.registers b.accepted) e ≡ Some (p, st)) where
  abbrev n : ℕ
  n = b.shape.processes

  abbrev registers : ℕ
  registers = b.shape.registers

  abbrev w : World
  w = whole start b.shape.processes b.shape.registers b.accepted

  abbrev v : World
  v = moved start w e (Some (p, st))

  abbrev s : State
  s = (w.nodes p).state

  abbrev r : State × Outcome
  r = step start s st

  moves : (length w.accepted < MOST_EVENTS) × (step_of n registers w.nodes e ≡ Some (p, st))
  moves = move_is n registers w e (p, st) move

  can : Allowed n registers w.nodes (Some (p, st))
  can = subst (Allowed n registers w.nodes) moves.1 (allowed n registers w.nodes e)

  pub here : p < n
  here = can.0

  count : length b.accepted ≡ length w.accepted
  count = ap length (sym T.accepted)

  tally : tally_at b.tallies p ≡ tally_of w p
  tally = tally_is start n registers laws b.accepted e p st move b.tallies T.tallies here

  next : whole start n registers (b.accepted ++ e ∷ []) ≡ v
  next = next_is start n registers laws b.accepted e p st move

  entries_are : v.history ≡ entries_after b.entries (length b.accepted) p (tally_at b.tallies p) st r.1.reply
  entries_are =
      ap (λ (h : List Entry). (h ++ calls_in (length w.accepted) (op_id p s.calls) st) ++ answers_in (length w.accepted) (op_id p (r.0.calls - 1)) r.1.reply) T.entries
      ∙ (ap (λ k. (b.entries ++ calls_in k (op_id p s.calls) st) ++ answers_in k (op_id p (r.0.calls - 1)) r.1.reply) (sym count)
      ∙ (ap (λ k. (b.entries ++ calls_in (length b.accepted) (op_id p s.calls) st) ++ answers_in (length b.accepted) (op_id p (k - 1)) r.1.reply) (calls_are start s st)
      ∙ ap (λ (t : Tally). entries_after b.entries (length b.accepted) p t st r.1.reply) (sym tally)))

  pub may_enter : MayEnter b p st (is_some r.0.running) r.1.cast r.1.delivered r.1.reply
  may_enter = record {
    few = (let l = moves.0 in omega (arith, l, count));
    process = (let size = T.tallies.size in let l = here in omega (arith, l, size));
    calls = subst (λ (t : Tally). CallFits st t.calls) (sym tally) (calls_fit registers s st can.1);
    history = subst (IsHistory n registers) (ap (λ (z : World). z.history) next ∙ entries_are) (in_place start n registers laws (b.accepted ++ e ∷ []));
    casters = λ d i. (let l = casters_now start n registers laws b.accepted e p st move b.tallies T.tallies here d i in let size = T.tallies.size in omega (arith, l, size));
    once = times_differ start n registers laws b.accepted e p st move b.tallies T.tallies here;
  }

  pub grows_now : Grows (length b.accepted) b.entries e r.1.reply
      (entries_after b.entries (length b.accepted) p (tally_at b.tallies p) st r.1.reply)
  grows_now = grows n registers (length b.accepted) b.entries (tally_at b.tallies p) r.1.reply w.nodes e (p, st) moves.1 may_enter.history

  abbrev after : Pages
  after = entered b e p st (is_some r.0.running) r.1.cast r.1.delivered r.1.reply

  tells_v : (v.accepted ≡ after.accepted) × (v.history ≡ after.entries) × (v.order ≡ after.order) × (v.reads ≡ after.reads) × AreTallies n v after.tallies
  tells_v = (
    ap (λ (l : List Event). l ++ e ∷ []) T.accepted,
    entries_are,
    ap (λ (l : List First). w.order ++ l) (firsts_now start n registers laws b.accepted e p st move b.tallies T.tallies here)
        ∙ (ap (λ (l : List First). l ++ firsts_in (tallies_after b.tallies p st (is_some r.0.running) r.1.cast) (length w.accepted) (last_stamp l) r.1.delivered) T.order
        ∙ ap (λ k. b.order ++ firsts_in (tallies_after b.tallies p st (is_some r.0.running) r.1.cast) k (last_stamp b.order) r.1.delivered) (sym count)),
    ap (λ (l : List CopyRead). w.reads ++ l) (reads_now start n registers laws b.accepted e p st move b.tallies T.tallies here r.1.reply)
        ∙ ap (λ (l : List CopyRead). l ++ read_in (tally_after (tally_at b.tallies p) st (is_some r.0.running) r.1.cast) p r.1.reply) T.reads,
    tallies_now start n registers laws b.accepted e p st move b.tallies T.tallies here,
  )

  pub tells_now : Tells start after
  tells_now =
      let z = subst (λ (z : World). (z.accepted ≡ after.accepted) × (z.history ≡ after.entries) × (z.order ≡ after.order) × (z.reads ≡ after.reads) × AreTallies n z after.tallies) (sym next) tells_v in
      record { accepted = z.0; entries = z.1; order = z.2; reads = z.3; tallies = z.4 }

  -- the process that made the step stands as the run has it now
  pub acted : (old new : Standing) (made : Option Stamp) (casts : List Delivered) (answer : Option Reply)
      → old ≡ standing_of n w p → Acts start old st made casts answer new
      → (new ≡ standing_of n v p) × (made ≡ r.1.cast) × (casts ≡ r.1.delivered) × (answer ≡ r.1.reply)
  acted old new made casts answer is A =
      let B : Acts start (standing_of n w p) st made casts answer new = subst (λ (z : Standing). Acts start z st made casts answer new) is A in
      let node = node_here start n registers laws b.accepted e p st move in
      let size : length s.peers ≡ n = (sound start n registers laws b.accepted p here).size in
      let wires : new.wires ≡ listed (v.nodes p).wire n =
      B.wires ∙ (ap (λ k. sent (puts r.1.frames k) (listed (w.nodes p).wire n)) size ∙ (sent_all (w.nodes p).wire r.1.frames n ∙ ap (λ (z : Node). listed z.wire n) (sym node))) in
      let state : new.state ≡ (v.nodes p).state = B.state ∙ ap (λ (z : Node). z.state) (sym node) in
      (λ i. record { failed = B.runs i; state = state i; wires = wires i }, B.cast, B.delivered, B.reply)

  pub stand_now : (members : List Standing) (new : Standing) → length members ≡ n → Stand start b members
      → new ≡ standing_of n v p → Stand start after (set members p new)
  stand_now members new size S is = record {
    each = λ q l. subst (λ (z : World). IsAt (set members p new) q (standing_of n z q)) (sym next) (elim (cases_eq q p) [
      | inl same ↦ subst (λ k. IsAt (set members p new) k (standing_of n v k)) (sym same) (at_set_same members p new (let h = here in omega (arith, h, size)) ∙ ap Some is)
      | inr ne ↦ at_set_other members p q new ne ∙ (S.each q l ∙ ap (λ (z : Node). Some (record { failed = false; state = z.state; wires = listed z.wire n })) (sym (node_there start n registers laws b.accepted e p st move q ne)))
    ]);
  }

  -- the world after the event
  pub world_now : (members : List Standing) (new : Standing) (now : Pages) → IsWorld start false members b
      → new ≡ standing_of n v p → now ≡ after → IsWorld start false (set members p new) now
  world_now members new now I is same = subst (λ (z : Pages). IsWorld start false (set members p new) z) (sym same) (record {
    few = I.few;
    size = length-set members p new ∙ I.size;
    tells = tells_now;
    makes = More e r.1.reply I.makes grows_now;
    stand = λ f. stand_now members new I.size (I.stand refl) is;
  })
