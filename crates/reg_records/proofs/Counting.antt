use Rattle.std.proofs.Common.{◌≡◌, ◌≢◌, ◌==◌, ◌<◌, ◌+◌, ℕ, List, length, get_or, set, take, ap, sym, ◌∙◌}
use Rattle.std.proofs.Common.{get_or-set_same, get_or-set_other, inl, inr}
use Rattle.std.proofs.lemmas.Bool.Decides.{eqb_tells}
use Rattle.std.proofs.lemmas.List.Sums.{count_by_more_yes, count_by_more_no}
use Rattle.reg_records.specs.Records.{mentions}
use Rattle.reg_records.specs.Playing.{AreTallied}

pub tallied-bump : (counts order : List ℕ) (place q n : ℕ) → place < length order → q ≡ get_or order place 0
    → q < length counts
    → n ≡ get_or counts q 0 → AreTallied counts order place → (p : ℕ) → p < length counts → get_or (set counts q (n + 1)) p 0 ≡ mentions p (take (place + 1) order)
tallied-bump counts order place q n here is in_counts old tallied p h =
    elim (eqb_tells (get_or order place 0) p) [
      | inl a ↦
          let same : p ≡ q = sym a.1 ∙ sym is in
          let more : mentions p (take (place + 1) order) ≡ mentions p (take place order) + 1 = count_by_more_yes (λ x. x == p) order place 0 here a.0 in
          let was : get_or counts p 0 ≡ mentions p (take place order) = tallied p h in
          let got : get_or (set counts q (n + 1)) p 0 ≡ n + 1 = rw same (get_or-set_same counts q (n + 1) 0 in_counts) in
          let old1 : n ≡ get_or counts p 0 = rw same old in
          got ∙ (ap (λ (x : ℕ). x + 1) (old1 ∙ was) ∙ sym more)
      | inr b ↦
          let other : p ≢ q = λ e. b.1 (sym is ∙ sym e) in
          let more : mentions p (take (place + 1) order) ≡ mentions p (take place order) = count_by_more_no (λ x. x == p) order place 0 here b.0 in
          get_or-set_other counts q p (n + 1) 0 other ∙ (tallied p h ∙ sym more)
    ]
