-- Steps of the walk that answers anew.
use Rattle.std.proofs.Common.{◌≡◌, ℕ, zero, suc, ◌+◌, ◌<◌, ◌≤◌, ◌⊎◌, inl, inr, List, [], ◌∷◌, map, take, length, get_or}
use Rattle.std.proofs.Common.{slice_get, ap, sym, ◌∙◌, subst, arith, add-one}
use Rattle.std.proofs.lemmas.Option.{same_Some, slice_get-get_or, slice_get_within}
use Rattle.std.proofs.lemmas.Bool.{cases_order}
use Rattle.reg_base.specs.Memory.{Memory, after, memory_after, blank, memory}
use Rattle.reg_checkers.specs.History.{IsAt}
use Rattle.reg_checkers.specs.declared.facts.Fact.{Fact}
use Rattle.reg_checkers.specs.Facts.{IsWrongOn, IsWrongFact}

more : (m : Memory) (xs : List Fact) (k : ℕ) (f : Fact) → IsAt xs k f
    → memory_after (map (λ f. f.op) (take (suc k) xs)) m ≡ after f.op (memory_after (map (λ f. f.op) (take k xs)) m)
more m [] k f h = absurd cc
more m (x ∷ xs) zero f h = ap (λ (y : Fact). after y.op m) (same_Some x f h)
more m (x ∷ xs) (suc k) f h = more (after x.op m) xs k f h

-- the memory after one more operation
pub memory_more : (registers : ℕ) (xs : List Fact) (k : ℕ) (d : Fact) → k < length xs
    → after (get_or xs k d).op (memory registers (map (λ f. f.op) (take k xs))) ≡ memory registers (map (λ f. f.op) (take (k + 1) xs))
memory_more registers xs k d lt =
    rw add-one (sym (more (blank registers) xs k (get_or xs k d) (slice_get-get_or xs k d lt)))

-- one more place that is not wrong
pub not_wrong_more : (registers : ℕ) (xs : List Fact) (k : ℕ) (d : Fact) → k < length xs
    → ((j : ℕ) → j < k → ¬ IsWrongFact registers xs j)
    → ¬ IsWrongOn (memory registers (map (λ f. f.op) (take k xs))) (get_or xs k d) → (j : ℕ) → j < k + 1 → ¬ IsWrongFact registers xs j
not_wrong_more registers xs k d lt before here j less wrong = go (cases_order j k)
  where
    go : (j ≡ k) ⊎ ((j < k) ⊎ (k < j)) → ⊥
    go (inl e) =
        let same : wrong.0 ≡ get_or xs k d = same_Some wrong.0 (get_or xs k d) (sym wrong.1 ∙ (ap (λ (i : ℕ). slice_get xs i) e ∙ slice_get-get_or xs k d lt)) in
        here (subst (λ (f : Fact). IsWrongOn (memory registers (map (λ f. f.op) (take k xs))) f) same (subst (λ (i : ℕ). IsWrongOn (memory registers (map (λ f. f.op) (take i xs))) wrong.0) e wrong.2))
    go (inr (inl h)) = before j h wrong
    go (inr (inr h)) = absurd (omega arith)

pub none_wrong : (registers : ℕ) (xs : List Fact) (n : ℕ) → length xs ≤ n
    → ((j : ℕ) → j < n → ¬ IsWrongFact registers xs j) → (k : ℕ) → ¬ IsWrongFact registers xs k
none_wrong registers xs n le before k wrong =
    let inside : k < length xs = slice_get_within xs k wrong.0 wrong.1 in before k (omega arith) wrong
