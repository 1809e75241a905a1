-- Arrays of two elements, and others.
use Rattle.std.proofs.Common.{◌≡◌, None, Some, List, [], ◌∷◌, get_or, length, Err, refl, arith}
use Rattle.serde_json.specs.declared.value.Value.{Value}
use Rattle.serde_json.specs.View.{items_view, view}
use Rattle.reg_observed.specs.declared.faults.Why.TheVariants.{BadPair}
use Rattle.reg_observed.specs.EdnSays.{two_of}
use Rattle.reg_observed.specs.JsonLines.{items_pair, pair_of}

pub not_two : (values : List Value) → (length values ≡ 2 → ⊥) → items_pair (items_view values) ≡ Err BadPair
not_two [] other = refl
not_two (a ∷ []) other = refl
not_two (a ∷ b ∷ []) other = absurd (other refl)
not_two (a ∷ b ∷ c ∷ rest) other = refl

pub two : (values : List Value) (c d : Value) → length values ≡ 2
    → pair_of (view (get_or values 0 c)) (view (get_or values 1 d)) ≡ items_pair (items_view values)
two [] c d is = absurd (omega (arith, is))
two (a ∷ []) c d is = absurd (omega (arith, is))
two (a ∷ b ∷ []) c d is = refl
two (a ∷ b ∷ x ∷ rest) c d is = absurd (omega (arith, is))

-- the same of the elements themselves
pub none_of : (values : List Value) → (length values ≡ 2 → ⊥) → two_of (items_view values) ≡ None
none_of [] other = refl
none_of (a ∷ []) other = refl
none_of (a ∷ b ∷ []) other = absurd (other refl)
none_of (a ∷ b ∷ c ∷ rest) other = refl

pub some_of : (values : List Value) (c d : Value) → length values ≡ 2
    → two_of (items_view values) ≡ Some (view (get_or values 0 c), view (get_or values 1 d))
some_of [] c d is = absurd (omega (arith, is))
some_of (a ∷ []) c d is = absurd (omega (arith, is))
some_of (a ∷ b ∷ []) c d is = refl
some_of (a ∷ b ∷ x ∷ rest) c d is = absurd (omega (arith, is))
