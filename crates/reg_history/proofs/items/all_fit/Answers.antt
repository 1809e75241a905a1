use Rattle.std.proofs.Common.{◌≡◌, ℕ, ◌+◌, ◌<◌, ◌⊎◌, inl, inr, List, Some, slice_get, refl, sym, ◌∙◌, ap, subst, arith}
use Rattle.std.proofs.lemmas.Bool.{cases_order}
use Rattle.std.proofs.lemmas.Option.{same_Some, slice_get_read, slice_get_within}
use Rattle.reg_text.proofs.Formed.{no_truth}
use Rattle.reg_history.proofs.items.all_fit.Goals as goal

-- one more fits
fit_more : {X : Type 0} (Fits : X → Type 0) (xs : List X) (i : ℕ) (here : X) → slice_get xs i ≡ Some here → Fits here
    → ((k : ℕ) (x : X) → k < i → slice_get xs k ≡ Some x → Fits x)
    → (k : ℕ) (x : X) → k < i + 1 → slice_get xs k ≡ Some x → Fits x
fit_more {X = X} Fits xs i here at fits before k x less is = go (cases_order k i)
  where
    go : (k ≡ i) ⊎ ((k < i) ⊎ (i < k)) → Fits x
    go (inl e) = subst Fits (same_Some here x (sym at ∙ (ap (λ (j : ℕ). slice_get xs j) (sym e) ∙ is))) fits
    go (inr (inl h)) = before k x h is
    go (inr (inr h)) = absurd (omega arith)

pub loop-item-init : goal.loop-item-init
loop-item-init g c = λ k x less is. absurd (omega arith)

pub loop-item-preserved : goal.loop-item-preserved
loop-item-preserved g c =
    let here = slice_get_read c.args.items.now _ c.loop-item.item-index c.item-item.result refl c.loop-item-test.true c.item-item.is in
    fit_more (g.T.Listed.Fits c.args.version) c.args.items.now c.loop-item.item-index c.item-item.result here (c.fits.ensures.0 c.if-not-fits.false) c.loop-item.invariant

pub returns : goal.returns
returns g c = (λ yes k x is. c.loop-item.invariant k x (let inside = slice_get_within c.args.items.now k x is in omega (arith, inside, c.loop-item-test.false)) is, λ all. refl)

pub returns-then-not-fits : goal.returns-then-not-fits
returns-then-not-fits g c =
    let here = slice_get_read c.args.items.now _ c.loop-item.item-index c.item-item.result refl c.loop-item-test.true c.item-item.is in
    (λ yes. no_truth yes, λ all. sym c.if-not-fits.true ∙ c.fits.ensures.1 (all c.loop-item.item-index c.item-item.result here))
