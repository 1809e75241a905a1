-- What a world answers, from its parts.
use Rattle.std.proofs.Common.{◌≡◌, ℕ, ◌+◌, ◌<◌, ◌≤◌, Bool, true, false, not, List, [], ◌∷◌, ◌++◌, map, length, take}
use Rattle.std.proofs.Common.{get_or, Option, Some, None, Result, Ok, Err, IfOk, refl, sym, ap, ◌∙◌, subst, inr, arith}
use Rattle.std.specs.List.{filter}
use Rattle.std.proofs.lemmas.List.{get_or_default, take_more}
use Rattle.std.specs.Option.{is_some}
use Rattle.std.proofs.lemmas.Bool.{cond_both}
use Rattle.std.proofs.lemmas.Option.{same_Some, none-some}
use Rattle.reg_base.specs.declared.limits.TheConstants.{MOST_EVENTS}
use Rattle.reg_base.specs.declared.memory.Op.{Op}
use Rattle.reg_base.specs.declared.memory.OpId.{OpId}
use Rattle.reg_base.specs.Shape.{Extent}
use Rattle.reg_frames.specs.declared.bodies.Frame.{Frame}
use Rattle.reg_front.specs.declared.starts.Start.{Start}
use Rattle.reg_front.specs.Fronts.{KeepsLaws}
use Rattle.reg_process.specs.Events.{Kept}
use Rattle.reg_process.specs.declared.steps.Step.{Step}
use Rattle.reg_checkers.specs.declared.entries.Point.{Point}
use Rattle.reg_checkers.specs.History.{IsAt}
use Rattle.reg_process.specs.declared.events.Event.{Event}
use Rattle.reg_world.specs.declared.faults.WorldFault.{WorldFault}
use Rattle.reg_world.specs.declared.faults.WorldFault.TheVariants.{Failed, TooManyEvents, NoProcess, Busy, NoRegister}
use Rattle.reg_world.specs.declared.faults.WorldFault.TheVariants.{TooManyOperations, NoFrame, OutOfMemory}
use Rattle.reg_world.specs.declared.order.First.{First}
use Rattle.reg_world.specs.declared.order.CopyRead.{CopyRead}
use Rattle.reg_world.specs.Keys.{IsWitness, ArePoints}
use Rattle.reg_world.specs.World.{World, run_of, world_fault, move_of, moved, whole}
use Rattle.reg_world.specs.Tallies.{Tally}
use Rattle.reg_world.specs.Witnesses.{is_kept, point_of, IsMerged}
use Rattle.reg_world.specs.Pages.{Pages}
use Rattle.reg_world.specs.Members.{Standing, listed}
use Rattle.reg_world.specs.Worlds.{Made, run_in, refusal, with_event, Accepts, Refuses, after_events, RunRefuses}
use Rattle.reg_world.specs.Worlds.{IsProcess, IsWire}
use Rattle.reg_world.specs.WorldParts.{IsWorld, made_of, standing_of}
use Rattle.reg_world.proofs.code.Noted.{at_index}
use Rattle.reg_world.proofs.code.Tallied.{at_or, points_are, witness_is}
use Rattle.reg_world.proofs.code.Telling.{at_listed}
use Rattle.reg_world.proofs.one_memory.Refusals.{refused_by_fault}
use Rattle.reg_world.proofs.run.Along.{one_more, few_events}

pub if_ok : {T E : Type 0} (r : Result T E) (P Q : T → Type 0) → IfOk r P → ((x : T) → P x → Q x) → IfOk r Q
if_ok (Ok x) P Q h f = f x h
if_ok (Err e) P Q h f = tt

module _ (start : Op → ℕ → Start) (laws : KeepsLaws start) (failed : Bool) (b : Pages) (members : List Standing) (I : IsWorld start failed members b) where
  abbrev w : World
  w = whole start b.shape.processes b.shape.registers b.accepted

  pub few_accepted : length b.accepted ≤ MOST_EVENTS
  few_accepted =
      let l = few_events start b.shape.processes b.shape.registers b.accepted in
      let e = ap length I.tells.accepted in
      omega (arith, l, e)

  module _ (m : Made) (is : made_of failed b ≡ m) where
    pub witness_told : (order : List First) (reads : List CopyRead) (tallies : List Tally) (ids : List OpId) → order ≡ b.order → reads ≡ b.reads → tallies ≡ b.tallies → IsMerged order reads tallies ids → IsWitness (run_of m.registers (run_in start m)) ids
    witness_told order reads tallies ids eo er et M =
        let N : IsMerged w.order w.reads b.tallies ids = subst (λ z. IsMerged z w.reads b.tallies ids) (eo ∙ sym I.tells.order) (subst (λ z. IsMerged order z b.tallies ids) (er ∙ sym I.tells.reads) (subst (λ z. IsMerged order reads z ids) et M)) in
        subst (λ (z : Made). IsWitness (run_of z.registers (run_in start z)) ids) is (witness_is start b.shape.processes b.shape.registers laws b.accepted b.tallies I.tells.tallies ids N)

    pub points_told : (order : List First) (tallies : List Tally) (points : List Point) → order ≡ b.order → tallies ≡ b.tallies → points ≡ map point_of (filter (is_kept tallies) order) → ArePoints (run_of m.registers (run_in start m)) points
    points_told order tallies points eo et same =
        let exact : points ≡ map point_of (filter (is_kept b.tallies) w.order) = same ∙ (ap (λ z. map point_of (filter (is_kept z) order)) et ∙ ap (λ z. map point_of (filter (is_kept b.tallies) z)) (eo ∙ sym I.tells.order)) in
        subst (λ (z : Made). ArePoints (run_of z.registers (run_in start z)) points) is (subst (ArePoints (run_of b.shape.registers w)) (sym exact) (points_are start b.shape.processes b.shape.registers laws b.accepted b.tallies I.tells.tallies))

    stands : (p : ℕ) (s : Standing) → IsAt members p s → p < length members → failed ≡ false → s ≡ standing_of b.shape.processes w p
    stands p s at l f = let size = I.size in same_Some s (standing_of b.shape.processes w p) (sym at ∙ (I.stand f).each p (omega (arith, l, size)))

    pub process_told : (p k : ℕ) (s : Standing) (q : Kept) → k ≡ p → k < length members → s ≡ get_or members k s → q.failed ≡ s.failed → q.state ≡ s.state → IsProcess start m p q
    process_told p k s q same l at failing state =
        let place : IsAt members p s = subst (λ j. IsAt members j s) same (at_index members k s l at) in
        subst (λ (z : Made). IsProcess start z p q) is (
          (let size = I.size in omega (arith, same, l, size)),
          λ f. let here = stands p s place (omega (arith, same, l)) f in (failing ∙ ap (λ (z : Standing). z.failed) here, state ∙ ap (λ (z : Standing). z.state) here),
        )

    pub wire_told : (from to k : ℕ) (s : Standing) (frames : List Frame) → k ≡ from → k < length members → s ≡ get_or members k s → to < length members → (from ≡ to → ⊥) → frames ≡ get_or s.wires to [] → IsWire start m from to frames
    wire_told from to k s frames same l at lt ne is_wire =
        let place : IsAt members from s = subst (λ j. IsAt members j s) same (at_index members k s l at) in
        let size = I.size in
        subst (λ (z : Made). IsWire start z from to frames) is (
          omega (arith, same, l, size),
          omega (arith, lt, size),
          ne,
          λ f. is_wire ∙ (ap (λ (z : Standing). get_or z.wires to []) (stands from s place (omega (arith, same, l)) f) ∙ at_or (listed (w.nodes from).wire b.shape.processes) to ((w.nodes from).wire to) [] (at_listed (w.nodes from).wire b.shape.processes to (omega (arith, lt, size)))),
        )

refused_by : (start : Op → ℕ → Start) (shape : Extent) (events : List Event) (at : ℕ) (e : Event) (fault : WorldFault)
    (new : Made)
    → IsAt events at e → at < length events → Refuses start (after_events start shape (take at events)) e fault new
    → RunRefuses start shape events at fault
refused_by start shape events at e Failed new here l h = (e, here, h.0)
refused_by start shape events at e TooManyEvents new here l h = (e, here, h.0)
refused_by start shape events at e NoProcess new here l h = (e, here, h.0)
refused_by start shape events at e Busy new here l h = (e, here, h.0)
refused_by start shape events at e NoRegister new here l h = (e, here, h.0)
refused_by start shape events at e TooManyOperations new here l h = (e, here, h.0)
refused_by start shape events at e NoFrame new here l h = (e, here, h.0)
refused_by start shape events at e OutOfMemory new here l h = inr (e, here, h.0)

pub run_refuses : (start : Op → ℕ → Start) (shape : Extent) (events : List Event) (at : ℕ) (d : Event)
    (fault : WorldFault) (old new : Made)
    → at < length events → old ≡ after_events start shape (take at events)
    → Refuses start old (get_or events at d) fault new → RunRefuses start shape events at fault
run_refuses start shape events at d fault old new l is h =
    refused_by start shape events at (get_or events at d) fault new (at_index events at (get_or events at d) l (get_or_default events at d (get_or events at d) l)) l (subst (λ (z : Made). Refuses start z (get_or events at d) fault new) is h)

-- an accepted event makes a run whose events are all accepted
accepted_more : (start : Op → ℕ → Start) (old : Made) (e : Event) → (run_in start old).accepted ≡ old.accepted
    → refusal start old e ≡ None → (run_in start (with_event start old e)).accepted ≡ old.accepted ++ e ∷ []
accepted_more start old e so none = go (move_of old.processes old.registers (run_in start old) e) refl
  where
    no_fault : world_fault old.processes old.registers (run_in start old) e ≡ None
    no_fault = cond_both old.failed (Some Failed) (world_fault old.processes old.registers (run_in start old) e) (λ o. o ≡ None → world_fault old.processes old.registers (run_in start old) e ≡ None) (λ f h. absurd (none-some Failed (sym h))) (λ f h. h) none

    go : (o : Option (ℕ × Step)) → move_of old.processes old.registers (run_in start old) e ≡ o → (run_in start (with_event start old e)).accepted ≡ old.accepted ++ e ∷ []
    go None is = let bad : false ≡ true = sym (ap is_some is) ∙ (refused_by_fault old.processes old.registers (run_in start old) e ∙ ap (λ o. not (is_some o)) no_fault) in cc
    go (Some m) is = ap (λ (w : World). w.accepted) (one_more start old.processes old.registers old.accepted e ∙ ap (moved start (run_in start old) e) is) ∙ ap (λ (l : List Event). l ++ e ∷ []) so

run_more : (start : Op → ℕ → Start) (shape : Extent) (events : List Event) (at : ℕ) (d : Event) (old new : Made)
    → at < length events → old ≡ after_events start shape (take at events) → Accepts start old (get_or events at d) new
    → new ≡ after_events start shape (take (at + 1) events)
run_more start shape events at d old new l is A =
    A.after ∙ (ap (λ (z : Made). with_event start z (get_or events at d)) is ∙ ap (after_events start shape) (sym (take_more events at d l)))

-- so many events of the list were accepted
pub record IsRunSoFar (start : Op → ℕ → Start) (shape : Extent) (events : List Event) (at : ℕ) (world : Made) : Type 0 where
  pub made : world ≡ after_events start shape (take at events)
  pub all : (run_in start (after_events start shape (take at events))).accepted ≡ take at events

pub run_goes_on : (start : Op → ℕ → Start) (shape : Extent) (events : List Event) (at : ℕ) (d : Event) (old new : Made)
    → at < length events → IsRunSoFar start shape events at old → Accepts start old (get_or events at d) new
    → IsRunSoFar start shape events (at + 1) new
run_goes_on start shape events at d old new l S A =
    let more = take_more events at d l in
    record {
      made = run_more start shape events at d old new l S.made A;
      all = subst (λ z. (run_in start (after_events start shape z)).accepted ≡ z) (sym more)
          (accepted_more start (after_events start shape (take at events)) (get_or events at d) S.all (subst (λ (z : Made). refusal start z (get_or events at d) ≡ None) S.made A.no_fault));
    }
