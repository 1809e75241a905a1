-- One stage more that leads to no order.
use Rattle.std.proofs.Common.{◌≡◌, inl, inr, ℕ, ◌<◌, List, [], length, Some, Result, Ok, Err, OnOk, IfErr, get_or, ap}
use Rattle.std.proofs.Common.{sym, ◌∙◌, subst}
use Rattle.std.specs.Prelude.{slice_set}
use Rattle.std.specs.BTreeMap.{BTreeMap}
use Rattle.std.proofs.lemmas.Bool.{cases_eq}
use Rattle.std.proofs.lemmas.Option.{same_Some, slice_get-get_or}
use Rattle.reg_base.specs.Order.{In}
use Rattle.reg_checkers.specs.History.{IsAt}
use Rattle.reg_checkers.proofs.Places.{get_set_other, get_set_same}
use Rattle.reg_outcomes.specs.declared.faults.InterleavingFault.{InterleavingFault}
use Rattle.reg_outcomes.specs.declared.interleavings.stages.Stage.{Stage as Held}
use Rattle.reg_outcomes.specs.Interleavings.{Stage}
use Rattle.reg_outcomes.specs.Layers.{Adds, Refuses}
use Rattle.reg_outcomes.specs.Walking.{IsNoted, Layers, Overfills, stages_in}

module _ {A : Type 0} (layers : Layers A) (placed : ℕ) (t : Stage) (old : BTreeMap (Held A) (Unit {0})) where
  is_old : placed < length layers → old ≡ get_or layers placed old → IsAt layers placed old
  is_old inside is = slice_get-get_or layers placed old inside ∙ ap Some (sym is)

  one_more : (new : BTreeMap (Held A) (Unit {0})) → placed < length layers → IsAt layers placed old → Adds (λ f. f ≡ (t, [])) (stages_in old) (stages_in new) → IsNoted placed t layers (slice_set layers placed new)
  one_more new inside here adds k s (layer, f, at, there, is) = elim (cases_eq k placed) [
    | inl same ↦
        let now : new ≡ layer = same_Some new layer (sym (get_set_same layers placed new inside) ∙ subst (λ (j : ℕ). IsAt (slice_set layers placed new) j layer) same at) in
        elim (adds.only f (subst (λ (l : BTreeMap (Held A) (Unit {0})). In f (stages_in l)) (sym now) there)) [
          | inl before ↦ inl (old, f, subst (λ (j : ℕ). IsAt layers j old) (sym same) here, before, is)
          | inr e ↦ inr (same, sym is ∙ ap (λ (g : Stage × List ℕ). g.0) e)
        ]
    | inr away ↦ inl (layer, f, sym (get_set_other layers placed k new away) ∙ at, there, is)
  ]

  pub noted_at : {T E : Type 0} (new : BTreeMap (Held A) (Unit {0})) (r : Result T E) → placed < length layers
      → old ≡ get_or layers placed old → OnOk r (Adds (λ f. f ≡ (t, [])) (stages_in old) (stages_in new))
      → OnOk r (IsNoted placed t layers (slice_set layers placed new))
  noted_at new (Ok v) inside is adds = one_more new inside (is_old inside is) adds
  noted_at new (Err e) inside is adds = tt

  pub refused_at : {T : Type 0} (limit : ℕ) (r : Result T InterleavingFault) → placed < length layers
      → old ≡ get_or layers placed old → IfErr r (Refuses limit (λ f. f ≡ (t, [])) (stages_in old))
      → IfErr r (Overfills limit placed t layers)
  refused_at limit (Ok v) inside is refuses = tt
  refused_at limit (Err e) inside is refuses = (old, is_old inside is, refuses)
