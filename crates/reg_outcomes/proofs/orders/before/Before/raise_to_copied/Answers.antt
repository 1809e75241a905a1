use Rattle.std.proofs.Common.{◌≡◌, ◌⊎◌, inl, inr, ◌+◌, ◌-◌, ◌<◌, ◌≤◌, ◌++◌, List, Some, ap, arith, drop, length, refl}
use Rattle.std.proofs.Common.{slice_get, subst, sym, take, ◌∙◌, ℕ, length-take, length-drop}
use Rattle.std.proofs.lemmas.Option.{slice_get_read}
use Rattle.std.specs.Vec.{with_item, with_items}
use Rattle.reg_outcomes.specs.declared.orders.before.Before.{Before}
use Rattle.reg_outcomes.specs.Forced.{AreRaised}
use Rattle.reg_outcomes.proofs.Raising.{counts_raised, written}
use Rattle.reg_outcomes.proofs.orders.before.Before.raise_to_copied.Goals as goal

pub returns : goal.returns
returns g c =
    let old = c.args.self.now in
    let q = c.from-process.result in
    let start = c.place_of-start.result in
    let row = c.index_mut-row.result.now in
    let xs = c.deref_mut.result.now in
    let ys = c.raise_to.new.counts in
    let n : ℕ = start + c.from.result - start in
    let ws = take start xs ++ (ys ++ drop n (drop start xs)) in
    let there : slice_get old.counts.items q ≡ Some row = slice_get_read old.counts.items c.len.result q row (c.len.ensures ∙ old.counts.ok.0) (omega (arith, c.if-process-len.false)) c.index_mut-row.ensures.value in
    let many : n ≡ old.processes = omega (arith, c.from.ensures) in
    let fits : start + n ≤ length xs = omega (arith, c.if-end-len.false, c.len-2.ensures, c.deref_mut.ensures.len) in
    let long : length ys ≡ n = omega (arith, c.raise_to.auto.counts, length-take n (drop start xs), length-drop start xs, fits) in
    let raised : AreRaised old.copied.items (take n (drop start xs)) ys = subst (λ (others : List ℕ). AreRaised others (take n (drop start xs)) ys) c.deref.ensures.value c.raise_to.ensures in
    let one_of : (place k : ℕ) → slice_get (with_items row ws).items place ≡ Some k → (slice_get row.items place ≡ Some k) ⊎ ((j : ℕ) × (place ≡ start + j) × (j < old.processes) × (slice_get old.copied.items j ≡ Some k)) =
    λ place k read. elim (written old.copied.items xs ys (drop (length ws) row.items) start n row.len long fits (sym c.deref_mut.ensures.len) raised place k read) [
      | inl was ↦ inl (ap (λ (l : List ℕ). slice_get l place) (sym c.deref_mut.ensures.value) ∙ was)
      | inr (j, at, less, other) ↦ inr (j, at, omega (arith, less, many), other)
    ] in
    let new : Before g.row.A.Denot = record { processes = old.processes; counts = with_item old.counts q (with_items row ws); noted = old.noted; copied = old.copied } in
    counts_raised old new c.args.id old.copied.items q start row (with_items row ws) refl refl there c.from-process.ensures c.place_of-start.ensures one_of
