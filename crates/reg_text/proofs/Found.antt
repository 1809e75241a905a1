-- What the first place of a byte says of a text.
use Rattle.std.proofs.Common.{ℕ, zero, suc, ◌≡◌, ◌+◌, ◌-◌, ◌<◌, ◌≤◌, ◌==◌, not, ◌&&◌, true, false, List, [], ◌∷◌, ◌++◌}
use Rattle.std.proofs.Common.{length, take, drop, slice_index, refl, sym, ap, ◌∙◌, arith, rules}
use Rattle.std.specs.List.{list_all}
use Rattle.std.proofs.lemmas.List.{length-take-le}
use Rattle.reg_text.specs.Parts.{Lacks}
use Rattle.reg_text.proofs.Parts.{rest_of}

pub nowhere : (m : ℕ) (bs : List ℕ) → ((k : ℕ) → k < length bs → (slice_index bs k == m) ≡ true → ⊥) → Lacks m bs
nowhere m [] h = refl
nowhere m (b ∷ bs) h =
    elim (b == m) as (λ t. (b == m) ≡ t → (not t && list_all (λ c. not (c == m)) bs) ≡ true) [
      | true ↦ λ e. absurd (h 0 (omega arith) e)
      | false ↦ λ e. nowhere m bs (λ k l. h (suc k) (omega (arith, l)))
    ] refl

before : (bs : List ℕ) (k j : ℕ) → j < k → k ≤ length bs → slice_index (take k bs) j ≡ slice_index bs j
before [] k j l w = absurd (omega (arith, l, w))
before (b ∷ bs) zero j l w = absurd (omega (arith, l))
before (b ∷ bs) (suc k) zero l w = refl
before (b ∷ bs) (suc k) (suc j) l w = before bs k j (omega (arith, l)) (omega (arith, w))

split : (bs : List ℕ) (k : ℕ) → k < length bs → bs ≡ take k bs ++ slice_index bs k ∷ drop (suc k) bs
split [] k l = absurd (omega (arith, l))
split (b ∷ bs) zero l = refl
split (b ∷ bs) (suc k) l = ap (λ x. b ∷ x) (split bs k (omega (arith, l)))

-- the text is cut at the first such place
pub first_cut : (m : ℕ) (bs : List ℕ) (k : ℕ) → k < length bs
    → ((j : ℕ) → 0 ≤ j → j < k → (slice_index bs j == m) ≡ true → ⊥) → (slice_index bs k == m) ≡ true
    → (bs ≡ take k bs ++ m ∷ take (length bs - (k + 1)) (drop (k + 1) bs)) × Lacks m (take k bs)
first_cut m bs k l none here =
    let same : slice_index bs k ≡ m = search (rules, here) in
    let s : suc k ≡ k + 1 = omega arith in
    let long : length (take k bs) ≡ k = length-take-le k bs (omega (arith, l)) in (
      split bs k l ∙ ap (λ x. take k bs ++ x ∷ drop (suc k) bs) same ∙ ap (λ j. take k bs ++ m ∷ drop j bs) s ∙ ap (λ x. take k bs ++ m ∷ x) (sym (rest_of bs (k + 1))),
      nowhere m (take k bs) (λ j w e.
          let within : j < k = omega (arith, w, long) in
          none j (omega arith) within (ap (λ x. x == m) (sym (before bs k j within (omega (arith, l)))) ∙ e)),
    )
