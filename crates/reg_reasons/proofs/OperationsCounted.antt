-- The words for one and for more.
use Rattle.std.proofs.Common.{ℕ, ◌≡◌, ◌==◌, List, refl}
use Rattle.std.specs.Prelude.{if◌then◌else◌}
use Rattle.std.proofs.lemmas.Bool.{ne_eqb}

-- for another number than one, those for more
pub more : (n : ℕ) (one many : List ℕ) → (n ≡ 1 → ⊥) → many ≡ (if n == 1 then one else many)
more n one many other = rw (ne_eqb n 1 other) refl
