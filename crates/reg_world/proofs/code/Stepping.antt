-- One step of a world, as its functions take it.
use Rattle.std.proofs.Common.{◌≡◌, ℕ, ◌<◌, Bool, true, false, List, [], ◌∷◌, ◌++◌, length, get_or, set, Option, Some}
use Rattle.std.proofs.Common.{None, Ok, Err, refl, sym, ap, ◌∙◌, subst, arith}
use Rattle.std.specs.Option.{is_some}
use Rattle.std.proofs.lemmas.Option.{same_Some}
use Rattle.reg_base.specs.declared.memory.Op.{Op}
use Rattle.reg_base.specs.declared.stamps.Stamp.{Stamp}
use Rattle.reg_base.specs.declared.stamps.Delivered.{Delivered}
use Rattle.reg_front.specs.declared.starts.Start.{Start}
use Rattle.reg_front.specs.Fronts.{KeepsLaws}
use Rattle.reg_process.specs.declared.steps.Reply.{Reply}
use Rattle.reg_process.specs.declared.steps.Step.{Step}
use Rattle.reg_process.specs.Process.{step}
use Rattle.reg_checkers.specs.History.{IsAt}
use Rattle.reg_process.specs.declared.events.Event.{Event}
use Rattle.reg_world.specs.declared.faults.WorldFault.{WorldFault}
use Rattle.reg_world.specs.declared.faults.WorldFault.TheVariants.{Failed, TooManyEvents, NoProcess, Busy, NoRegister}
use Rattle.reg_world.specs.declared.faults.WorldFault.TheVariants.{TooManyOperations, NoFrame, OutOfMemory}
use Rattle.reg_world.specs.Nodes.{Node}
use Rattle.reg_world.specs.World.{World, world_fault, move_of, moved, whole}
use Rattle.reg_world.specs.Histories.{Grows}
use Rattle.reg_world.specs.Pages.{Pages, entered, entries_after, tally_at, MayEnter}
use Rattle.reg_world.specs.Members.{Standing, MayAct, Acts}
use Rattle.reg_world.specs.Worlds.{Made, refusal, with_event, stopped, reply_of_move, reply_in, Accepts, Refuses}
use Rattle.reg_world.specs.WorldParts.{IsWorld, made_of, standing_of, found, IsMove, Advances}
use Rattle.reg_world.proofs.code.Noted.{at_index}
use Rattle.reg_world.proofs.one_order.Acting.{may_act}
use Rattle.reg_world.proofs.code.Telling.{IsFound, found_right, ordinary}
use Rattle.reg_world.proofs.code.Onward.{here, may_enter, grows_now, acted, world_now}
use Rattle.reg_world.proofs.code.Growing.{node_here}

module _ (start : Op → ℕ → Start) (laws : KeepsLaws start) (b : Pages) (members : List Standing) (I : IsWorld start false members b) (e : Event) (p : ℕ) (st : Step) (move : IsMove start b e (p, st)) where
  abbrev w : World
  w = whole start b.shape.processes b.shape.registers b.accepted

  pub within : p < length members
  within = let l = here start laws b I.tells e p st move in let size = I.size in omega (arith, l, size)

  pub old_is : (k : ℕ) (t : Standing) → k ≡ p → t ≡ get_or members k t → t ≡ standing_of b.shape.processes w p
  old_is k t same at =
      let l = within in
      same_Some t (standing_of b.shape.processes w p) (sym (subst (λ j. IsAt members j t) same (at_index members k t (omega (arith, l, same)) at)) ∙ (I.stand refl).each p (here start laws b I.tells e p st move))

  pub act_ok : (k : ℕ) (t : Standing) → k ≡ p → t ≡ get_or members k t → MayAct start t st
  act_ok k t same at = subst (λ z. MayAct start z st) (sym (old_is k t same at)) (may_act start b.shape.processes b.shape.registers laws b.accepted e p st move)

  module _ (k : ℕ) (old new : Standing) (made : Option Stamp) (casts : List Delivered) (answer : Option Reply) (runs : Bool) (same : k ≡ p) (at : old ≡ get_or members k old) (A : Acts start old st made casts answer new) (running : runs ≡ is_some new.state.running) where
    facts : (new ≡ standing_of b.shape.processes (moved start w e (Some (p, st))) p) × (made ≡ (step start (w.nodes p).state st).1.cast) × (casts ≡ (step start (w.nodes p).state st).1.delivered) × (answer ≡ (step start (w.nodes p).state st).1.reply)
    facts = acted start laws b I.tells e p st move old new made casts answer (old_is k old same at) A

    runs_is : runs ≡ is_some (step start (w.nodes p).state st).0.running
    runs_is = running ∙ (ap (λ (z : Standing). is_some z.state.running) facts.0 ∙ ap (λ (z : Node). is_some z.state.running) (node_here start b.shape.processes b.shape.registers laws b.accepted e p st move))

    pub enter_ok : MayEnter b p st runs made casts answer
    enter_ok =
        subst (λ z. MayEnter b p st z made casts answer) (sym runs_is)
        (subst (λ z. MayEnter b p st (is_some (step start (w.nodes p).state st).0.running) z casts answer) (sym facts.1)
        (subst (λ z. MayEnter b p st (is_some (step start (w.nodes p).state st).0.running) (step start (w.nodes p).state st).1.cast z answer) (sym facts.2)
        (subst (λ z. MayEnter b p st (is_some (step start (w.nodes p).state st).0.running) (step start (w.nodes p).state st).1.cast (step start (w.nodes p).state st).1.delivered z) (sym facts.3)
        (may_enter start laws b I.tells e p st move))))

    pub advances : (now : Pages) → now ≡ entered b e p st runs made casts answer → Advances start b e answer (set members k new) now
    advances now is =
        let r = step start (w.nodes p).state st in
        let exact : now ≡ entered b e p st (is_some r.0.running) r.1.cast r.1.delivered r.1.reply = is ∙ λ i. entered b e p st (runs_is i) (facts.1 i) (facts.2 i) (facts.3 i) in
        let world : IsWorld start false (set members k new) now = subst (λ j. IsWorld start false (set members j new) now) (sym same) (world_now start laws b I.tells e p st move members new now I facts.0 exact) in
        let told : (entered b e p st runs made casts answer).entries ≡ (whole start b.shape.processes b.shape.registers (b.accepted ++ e ∷ [])).history =
        sym (subst (λ (z : Pages). (whole start z.shape.processes z.shape.registers z.accepted).history ≡ z.entries) is world.tells.entries) in
        record {
          world = world;
          made = ap (made_of false) is ∙ λ i. record (made_of false (entered b e p st runs made casts answer)) { history = told i };
          grows = subst (λ (z : Pages). Grows (length b.accepted) b.entries e answer z.entries) (sym is) (subst (λ (z : Option Reply). Grows (length b.accepted) b.entries e z (entries_after b.entries (length b.accepted) p (tally_at b.tallies p) st z)) (sym facts.3) (grows_now start laws b I.tells e p st move));
          reply = facts.3 ∙ sym (ap (reply_of_move start w) move);
        }

-- a fault that applies, and nothing has changed
refuses_by : (start : Op → ℕ → Start) (m : Made) (e : Event) (fault : WorldFault) → refusal start m e ≡ Some fault
    → (fault ≡ OutOfMemory → ⊥) → Refuses start m e fault m
refuses_by start m e Failed h other = (h, refl)
refuses_by start m e TooManyEvents h other = (h, refl)
refuses_by start m e NoProcess h other = (h, refl)
refuses_by start m e Busy h other = (h, refl)
refuses_by start m e NoRegister h other = (h, refl)
refuses_by start m e TooManyOperations h other = (h, refl)
refuses_by start m e NoFrame h other = (h, refl)
refuses_by start m e OutOfMemory h other = absurd (other refl)

module _ (start : Op → ℕ → Start) (failed : Bool) (b : Pages) (members : List Standing) (I : IsWorld start failed members b) (no_stop : failed ≡ false) (e : Event) (m : Made) (is : made_of failed b ≡ m) where
  here_false : made_of false b ≡ m
  here_false = ap (λ f. made_of f b) (sym no_stop) ∙ is

  abbrev here_run : World
  here_run = whole start b.shape.processes b.shape.registers b.accepted

  right : IsFound (world_fault b.shape.processes b.shape.registers here_run e) (move_of b.shape.processes b.shape.registers here_run e) (found members b e)
  right = found_right start b members I.size I.tells (I.stand no_stop) e

  pub refuses_is : (fault : WorldFault) → found members b e ≡ Err fault → Refuses start m e fault m
  refuses_is fault h =
      let f : world_fault b.shape.processes b.shape.registers here_run e ≡ Some fault = subst (IsFound (world_fault b.shape.processes b.shape.registers here_run e) (move_of b.shape.processes b.shape.registers here_run e)) h right in
      subst (λ z. Refuses start z e fault z) here_false
      (refuses_by start (made_of false b) e fault f (λ q. (ordinary b.shape.processes b.shape.registers here_run e).0 (f ∙ ap Some q)))

  ok_is : (x : ℕ × Step) → found members b e ≡ Ok x → (world_fault b.shape.processes b.shape.registers here_run e ≡ None) × IsMove start b e x
  ok_is x h = subst (IsFound (world_fault b.shape.processes b.shape.registers here_run e) (move_of b.shape.processes b.shape.registers here_run e)) h right

  pub move_found : (x : ℕ × Step) → found members b e ≡ Ok x → IsMove start b e x
  move_found x h = (ok_is x h).1

  pub none_is : (x : ℕ × Step) → found members b e ≡ Ok x → refusal start m e ≡ None
  none_is x h = subst (λ z. refusal start z e ≡ None) here_false (ok_is x h).0

  pub accepts_is : (x : ℕ × Step) → found members b e ≡ Ok x
      → (answer : Option Reply) (now : List Standing) (after : Pages) → Advances start b e answer now after
      → Accepts start m e (made_of failed after) × (answer ≡ reply_in start m e)
  accepts_is x h answer now after A = (
    record { no_fault = none_is x h; after = ap (λ f. made_of f after) no_stop ∙ (A.made ∙ ap (λ z. with_event start z e) here_false) },
    A.reply ∙ ap (λ z. reply_in start z e) here_false,
  )

  pub grows_is : (answer : Option Reply) (now : List Standing) (after : Pages) → Advances start b e answer now after
      → Grows (length m.accepted) m.history e answer (made_of failed after).history
  grows_is answer now after A = subst (λ (z : Made). Grows (length z.accepted) z.history e answer after.entries) is A.grows

  pub stopped_is : (after : Pages) → after ≡ b → made_of true after ≡ stopped m
  stopped_is after same = ap (made_of true) same ∙ ap stopped here_false

pub stopped_world : (start : Op → ℕ → Start) (failed : Bool) (members now : List Standing) (b after : Pages)
    → IsWorld start failed members b → after ≡ b → length now ≡ length members → IsWorld start true now after
stopped_world start failed members now b after I same size = subst (λ z. IsWorld start true now z) (sym same) (record {
  few = I.few;
  size = size ∙ I.size;
  tells = I.tells;
  makes = I.makes;
  stand = λ h. absurd (let bad : ⊥ = cc in bad);
})
