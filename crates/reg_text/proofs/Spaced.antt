-- A number behind a space, written over the last of more spaces than it needs.
use Rattle.std.proofs.Common.{ℕ, zero, suc, ◌≡◌, ◌+◌, ◌-◌, ◌≤◌, List, [], ◌∷◌, ◌++◌, length, take, drop, replicate}
use Rattle.std.proofs.Common.{refl, sym, ap, ◌∙◌, append-nil, arith}
use Rattle.std.proofs.lemmas.List.{take-append-drop, take_all}

abbrev pub spaces : ℕ → List ℕ
spaces n = replicate n 32

take_spaces : (k m : ℕ) → k ≤ m → take k (spaces m) ≡ spaces k
take_spaces zero m h = refl
take_spaces (suc k) zero h = absurd (omega (arith, h))
take_spaces (suc k) (suc m) h = ap (λ l. 32 ∷ l) (take_spaces k m (omega (arith, h)))

past_spaces : (k : ℕ) (rest : List ℕ) → drop k (spaces (suc k) ++ rest) ≡ 32 ∷ rest
past_spaces zero rest = refl
past_spaces (suc k) rest = past_spaces k rest

spaced_at : (k : ℕ) (ds new : List ℕ) → suc k ≤ 21 → drop (suc k) new ≡ ds → take (suc k) new ≡ take (suc k) (spaces 21)
    → drop k new ≡ 32 ∷ ds
spaced_at k ds new h written before =
    ap (λ l. drop k l) (sym (take-append-drop (suc k) new) ∙ ap (λ l. l ++ drop (suc k) new) (before ∙ take_spaces (suc k) 21 h)) ∙ past_spaces k (drop (suc k) new) ∙ ap (λ l. 32 ∷ l) written

from_space : (start : ℕ) (ds new : List ℕ) → start + length ds ≡ 21 → length ds ≤ 20 → drop start new ≡ ds ++ []
    → take start new ≡ take start (spaces 21) → drop (start - 1) new ≡ 32 ∷ ds
from_space zero ds new sum short written before = absurd (omega (arith, sum, short))
from_space (suc k) ds new sum short written before =
    let back : suc k - 1 ≡ k = omega arith in
    ap (λ j. drop j new) back ∙ spaced_at k ds new (omega (arith, sum)) (written ∙ append-nil ds) before

pub spaced : (start : ℕ) (ds new : List ℕ) → start + length ds ≡ 21 → length ds ≤ 20 → drop start new ≡ ds ++ []
    → take start new ≡ take start (spaces 21) → take (21 - (start - 1)) (drop (start - 1) new) ≡ 32 ∷ ds
spaced start ds new sum short written before =
    ap (take (21 - (start - 1))) (from_space start ds new sum short written before) ∙ take_all (21 - (start - 1)) (32 ∷ ds) (omega (arith, sum, short))
