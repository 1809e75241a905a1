-- Words under numbers.
use Rattle.std.proofs.Common.{ℕ, ◌≡◌, List, [], ◌∷◌, ◌++◌, Bool, true, false, map, slice_get, Some, String}
use Rattle.std.proofs.Common.{string_bytes, if◌then◌else◌, refl, ap, sym, subst, ◌∙◌, append-nil, zero, suc, true≢false}
use Rattle.std.proofs.lemmas.List.{map-append}
use Rattle.std.proofs.lemmas.Option.{slice_get-map, same_Some}
use Rattle.reg_checkers.proofs.Places.{at_map}
use Rattle.std.proofs.lemmas.Slice.Eq.{bytes_eq-Decides}
use Rattle.std.specs.List.{list_any, AllByRecursion, IsDistinct}
use Rattle.std.specs.Option.{option_map}
use Rattle.std.specs.String.{string_eq}
use Rattle.indexmap.specs.IndexSet.{insert_key}
use Rattle.reg_observed.specs.Heard.{AreDistinct, Extends}

module _ {Z : Type 0} where
  -- the word that is stored is the word that was given
  pub stored_here : (ks : List (String Z)) (place : ℕ) (w k : String Z) → slice_get ks place ≡ Some k
      → string_eq w k ≡ true → slice_get (map string_bytes ks) place ≡ Some (string_bytes w)
  stored_here ks place w k here same =
      let e : string_bytes w ≡ string_bytes k = (bytes_eq-Decides (string_bytes w) (string_bytes k)).0 same in
      slice_get-map string_bytes ks place ∙ ap (λ o. option_map string_bytes o) here ∙ ap (λ b. Some b) (sym e)

  -- a new word comes last, and no other moves
  pub inserted : (ks ls : List (String Z)) (w : String Z) → ls ≡ insert_key string_eq ks w
      → Extends (map string_bytes ks) (map string_bytes ls)
  inserted ks ls w is = go (list_any (string_eq w) ks) is
    where
      go : (b : Bool) → ls ≡ (if b then ks else ks ++ w ∷ []) → Extends (map string_bytes ks) (map string_bytes ls)
      go true e = ([], ap (λ l. map string_bytes l) e ∙ sym (append-nil (map string_bytes ks)))
      go false e = (string_bytes w ∷ [], ap (λ l. map string_bytes l) e ∙ map-append string_bytes ks (w ∷ []))

module _ {Z : Type 0} where
  each : (P : String Z → Type 0) (ks : List (String Z)) (i : ℕ) (k : String Z) → AllByRecursion P ks → slice_get ks i ≡ Some k → P k
  each P [] i k all h = absurd (cc)
  each P (x ∷ ks) zero k all h = subst P (same_Some x k h) all.0
  each P (x ∷ ks) (suc i) k all h = each P ks i k all.1 h

  -- a word that stands first stands nowhere later
  later : (k : String Z) (ks : List (String Z)) (j : ℕ) (word : List ℕ) → AllByRecursion (λ y. string_eq k y ≡ false) ks → string_bytes k ≡ word → slice_get (map string_bytes ks) j ≡ Some word → ⊥
  later k ks j word all e h =
      let found = at_map string_bytes ks j word h in
      let differ : string_eq k found.0 ≡ false = each (λ y. string_eq k y ≡ false) ks j found.0 all found.1 in
      let same : string_eq k found.0 ≡ true = (bytes_eq-Decides (string_bytes k) (string_bytes found.0)).1 (e ∙ sym found.2) in
      true≢false (sym same ∙ differ)

  -- keys that differ are words that differ
  pub distinct : (ks : List (String Z)) → IsDistinct string_eq ks → AreDistinct (map string_bytes ks)
  unfolding IsDistinct
  distinct [] d i j word h g = absurd (cc)
  distinct (k ∷ ks) d zero zero word h g = refl
  distinct (k ∷ ks) d zero (suc j) word h g = absurd (later k ks j word d.0 (same_Some (string_bytes k) word h) g)
  distinct (k ∷ ks) d (suc i) zero word h g = absurd (later k ks i word d.0 (same_Some (string_bytes k) word g) h)
  distinct (k ∷ ks) d (suc i) (suc j) word h g = ap suc (distinct ks d.1 i j word h g)
