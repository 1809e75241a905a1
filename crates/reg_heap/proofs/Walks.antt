-- What the walks share. Assumes `Logic`.
use Rattle.std.proofs.Common.{◌≡◌, ℕ, zero, suc, List, [], ◌∷◌, refl}
use denote.Builtin.{unit}
use denote.Signature.{Slot, plain}

-- the slot of a parameter
abbrev pub slot_at : {n : ℕ} → ℕ → List (Slot n) → Slot n
slot_at k [] = plain (λ _. unit)
slot_at zero (s ∷ ss) = s
slot_at (suc k) (s ∷ ss) = slot_at k ss

pub by_count : {X : Type 1} (k : ℕ) → (k ≡ zero → X) → ((j : ℕ) → k ≡ suc j → X) → X
by_count zero none more = none refl
by_count (suc j) none more = more j refl
