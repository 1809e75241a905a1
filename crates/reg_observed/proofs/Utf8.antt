-- Text or not, as a test.
use Rattle.std.proofs.Common.{ℕ, ◌≡◌, List, Bool, true, false, Option, None, if◌then◌else◌, ap}
use Rattle.std.specs.Str.{IsUtf8, is_utf8}
use Rattle.std.proofs.lemmas.Str.{IsUtf8-from_is_utf8, is_utf8-from_IsUtf8}

-- what is read of a text is what is read of bytes that are one
pub tested : {X : Type 0} (bytes : List ℕ) (o : Option X) → IsUtf8 bytes → (if is_utf8 bytes then o else None) ≡ o
tested bytes o text = ap (λ b. if b then o else None) (is_utf8-from_IsUtf8 bytes text)

-- and where nothing is read of a text, nothing is read of the bytes
pub untested : {X : Type 0} (bytes : List ℕ) (o : Option X) → (IsUtf8 bytes → o ≡ None)
    → (if is_utf8 bytes then o else None) ≡ None
untested bytes o none = go (is_utf8 bytes) (λ e. none (IsUtf8-from_is_utf8 bytes e))
  where
    go : (b : Bool) → (b ≡ true → o ≡ None) → (if b then o else None) ≡ None
    go true h = h (λ i. true)
    go false h = λ i. None
