-- A call with no cast changes nothing; where every operation is cast there is none.
use Rattle.std.proofs.Common.{◌≡◌, ℕ, false, List, Option, Some, None, sym, ap, ◌∙◌, inl, inr}
use Rattle.std.specs.Prelude.{slice_get}
use Rattle.std.proofs.lemmas.Option.{none-some}
use Rattle.reg_base.specs.declared.memory.Op.{Op}
use Rattle.reg_front.specs.declared.starts.Start.{Start}
use Rattle.reg_front.specs.declared.starts.Start.TheVariants.{Cast as Casts, CastAndAnswer as CastsAndAnswers}
use Rattle.reg_front.specs.declared.starts.Start.TheVariants.{Look as Looks, Hold as Holds}
use Rattle.reg_process.specs.declared.steps.Step.{Step}
use Rattle.reg_process.specs.declared.steps.Step.TheVariants.{Call, Take, Tick}
use Rattle.reg_process.specs.declared.events.Event.{Event}
use Rattle.reg_base.specs.Order.{In}
use Rattle.reg_base.specs.Memory.{updates}
use Rattle.reg_process.specs.Process.{State, called, unsettled, step}
use Rattle.reg_front.specs.Fronts.{MayStart, KeepsLaws}
use Rattle.reg_world.proofs.run.Traced.{Trace, Called, Past, called_in, past_after, pasts_after, traced}
use Rattle.reg_world.proofs.lists.Bodies.{place_split}
use Rattle.reg_world.proofs.one_order.Acts.{put_cases}
use Rattle.reg_world.specs.World.{move_of, whole}
use Rattle.reg_world.proofs.run.Along.{along}

-- what holds of each call, if it holds of what each step calls
module _ (Q : Called → Type 0) (start : Op → ℕ → Start) (new : (at : ℕ) (s : State) (e : Step) (d : Called) → In d (called_in at e (step start s e).1.cast) → Q d) where
  abbrev pub EachCall : (ℕ → Past) → Type 0
  EachCall pasts = (p number : ℕ) (d : Called) → slice_get (pasts p).calls number ≡ Some d → Q d

  after_each : (w : Trace) (m : Option (ℕ × Step)) → EachCall w.pasts → EachCall (pasts_after start w m)
  after_each w None A = A
  after_each w (Some m) A = λ q number d.
      let s = (w.nodes m.0).state in
      put_cases (λ (g : Past). slice_get g.calls number ≡ Some d → Q d) w.pasts m.0 (past_after w.count s (w.pasts m.0) m.1 (step start s m.1)) q
      (λ _ at. elim (place_split (w.pasts m.0).calls (called_in w.count m.1 (step start s m.1).1.cast) number d at) [ inl k ↦ A m.0 number d k | inr k ↦ new w.count s m.1 d k.1 ])
      (λ _ at. A q number d at)

  pub each_call : (n registers : ℕ) (events : List Event) → EachCall (traced start n registers events).pasts
  each_call n registers =
      along start n registers (λ v. EachCall v.pasts) (λ p number d h. absurd (none-some d h))
      (λ es e A. after_each (traced start n registers es) (move_of n registers (whole start n registers es) e) A)

abbrev pub ChangesNothing : Called → Type 0
ChangesNothing d = d.cast ≡ None → updates d.op ≡ false

called_changes : (at : ℕ) (s : State) (op : Op) (st : Start) → MayStart op (unsettled s) st → (d : Called)
    → In d (called_in at (Call op) (called s op st).1.cast) → ChangesNothing d
called_changes at s op Casts may d (inl e) = λ n. absurd (none-some _ (sym n ∙ ap (λ (z : Called). z.cast) e))
called_changes at s op CastsAndAnswers may d (inl e) = λ n. absurd (none-some _ (sym n ∙ ap (λ (z : Called). z.cast) e))
called_changes at s op Looks may d (inl e) = λ n. ap (λ (z : Called). updates z.op) e ∙ may.0
called_changes at s op Holds may d (inl e) = λ n. ap (λ (z : Called). updates z.op) e ∙ may.0
called_changes at s op Casts may d (inr f) = absurd f
called_changes at s op CastsAndAnswers may d (inr f) = absurd f
called_changes at s op Looks may d (inr f) = absurd f
called_changes at s op Holds may d (inr f) = absurd f

step_changes : (start : Op → ℕ → Start) → KeepsLaws start → (at : ℕ) (s : State) (e : Step) (d : Called)
    → In d (called_in at e (step start s e).1.cast) → ChangesNothing d
step_changes start laws at s (Call op) = called_changes at s op (start op (unsettled s)) (laws op (unsettled s))
step_changes start laws at s (Take a f) = λ d i. absurd i
step_changes start laws at s Tick = λ d i. absurd i

pub copies_change_nothing : (start : Op → ℕ → Start) (n registers : ℕ) (events : List Event) → KeepsLaws start
    → (p number : ℕ) (d : Called) → slice_get ((traced start n registers events).pasts p).calls number ≡ Some d
    → d.cast ≡ None → updates d.op ≡ false
copies_change_nothing start n registers events laws =
    each_call ChangesNothing start (step_changes start laws) n registers events
