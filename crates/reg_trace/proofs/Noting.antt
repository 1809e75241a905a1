-- The events with their notes, place by place.
use Rattle.std.proofs.Common.{ℕ, zero, suc, ◌≡◌, ◌∙◌, ◌<◌, List, [], ◌∷◌, length, drop, get_or, refl, ap, arith}
use Rattle.reg_trace.specs.Moments.{Fact}
use Rattle.reg_trace.specs.Noted.{Noted, noted}

pub length-noted : (facts : List Fact) (notes : List (List ℕ)) → length (noted facts notes) ≡ length facts
length-noted [] notes = refl
length-noted (f ∷ facts) notes = ap suc (length-noted facts (drop 1 notes))

next_note : (notes : List (List ℕ)) (k : ℕ) → get_or notes (suc k) [] ≡ get_or (drop 1 notes) k []
next_note [] k = refl
next_note (n ∷ notes) k = refl

-- the event at a place has the note at that place
pub noted_at : (facts : List Fact) (notes : List (List ℕ)) (k : ℕ) (f : Fact) (d : Noted) → k < length facts
    → record { fact = get_or facts k f; note = get_or notes k [] } ≡ get_or (noted facts notes) k d
noted_at [] notes k f d l = absurd (omega (arith, l))
noted_at (x ∷ facts) notes zero f d l = refl
noted_at (x ∷ facts) notes (suc k) f d l =
    ap (λ (n : List ℕ). let r : Noted = record { fact = get_or facts k f; note = n } in r) (next_note notes k) ∙ noted_at facts (drop 1 notes) k f d (omega (arith, l))
