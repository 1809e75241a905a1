-- Lemmas on the places of names.
use Rattle.std.proofs.Common.{◌≡◌, ◌≢◌, ◌↔◌, ℕ, ◌+◌, ◌<◌, ◌≤◌, not, nat_eq, nat_lt, suc, zero, Bool, true, false, cond}
use Rattle.std.proofs.Common.{List, [], ◌∷◌, ◌++◌, length, take, drop, get_or, map, Option, Some, None, slice_get}
use Rattle.std.proofs.Common.{String, string_bytes, refl, ap, sym, ◌∙◌, subst, arith, append_assoc, add-one}
use Rattle.std.specs.List.{position_from, list_any, IsDistinct, AllByRecursion}
use Rattle.std.specs.Str.{bytes_eq}
use Rattle.std.proofs.lemmas.Cmp.{nat_list_eq_equiv}
use Rattle.std.proofs.lemmas.Map.Keys.{IsDistinct-push, IsDistinct-head, IsDistinct-tail}
use Rattle.std.proofs.lemmas.Slice.Eq.{bytes_eq-Decides}
use Rattle.std.proofs.lemmas.List.{take_more, length-take-le, length-map}
use Rattle.std.proofs.Math.Seq.{drop-cons}
use Rattle.std.specs.Prelude.{IsTrue, IfSome, IfNone, option_map}
use Rattle.std.proofs.lemmas.Option.{same_Some, slice_get-map, slice_get-get_or}
use Rattle.reg_base.specs.Names.{repeat_after, texts, names_fault, first_repeat, first_bad, worst_place, is_name}
use Rattle.reg_base.specs.declared.limits.TheConstants.{MOST_REGISTERS}
use Rattle.reg_base.specs.declared.naming.NamesFault.TheVariants.{NoName, TooManyNames}
use Rattle.std.proofs.lemmas.Bool.Decides.{nat_tests}
use Rattle.std.proofs.lemmas.Option.{slice_get_within}

pub position_from_map : {X Y : Type 0} (f : X → Y) (p : Y → Bool) (i : ℕ) (xs : List X)
    → position_from p i (map f xs) ≡ position_from (λ x. p (f x)) i xs
position_from_map f p i [] = refl
position_from_map f p i (x ∷ xs) = ap (cond (p (f x)) (Some i)) (position_from_map f p (i + 1) xs)

append-nil : (xs : List (List ℕ)) → xs ++ [] ≡ xs
append-nil [] = refl
append-nil (x ∷ xs) = ap (λ t. x ∷ t) (append-nil xs)

-- where none stands earlier, all differ
pub distinct_after : (earlier names : List (List ℕ)) → IsDistinct bytes_eq earlier → repeat_after earlier names ≡ None
    → IsDistinct bytes_eq (earlier ++ names)
distinct_after earlier [] d h = subst (IsDistinct bytes_eq) (sym (append-nil earlier)) d
distinct_after earlier (n ∷ ns) d h =
    elim (list_any (bytes_eq n) earlier) as (λ b. list_any (bytes_eq n) earlier ≡ b → cond b (Some (length earlier)) (repeat_after (earlier ++ n ∷ []) ns) ≡ None → IsDistinct bytes_eq (earlier ++ n ∷ ns)) [
      | true ↦ λ e k. absurd (cc)
      | false ↦ λ e k. subst (IsDistinct bytes_eq) (append_assoc earlier (n ∷ []) ns) (distinct_after (earlier ++ n ∷ []) ns (IsDistinct-push nat_list_eq_equiv earlier n d e) k)
    ] refl h

-- what a search found
pub found_at_place : (p : List ℕ → Bool) (k : ℕ) (xs : List (List ℕ)) (i : ℕ) → position_from p k xs ≡ Some i
    → (j : ℕ) × (x : List ℕ) × (i ≡ k + j) × (slice_get xs j ≡ Some x) × (p x ≡ true)
found_at_place p k [] i h = absurd (cc)
found_at_place p k (x ∷ xs) i h =
    elim (p x) as (λ b. p x ≡ b → cond b (Some k) (position_from p (k + 1) xs) ≡ Some i → (j : ℕ) × (y : List ℕ) × (i ≡ k + j) × (slice_get (x ∷ xs) j ≡ Some y) × (p y ≡ true)) [
      | true ↦ λ e s. let q : k ≡ i = cc in (0, x, omega arith, refl, e)
      | false ↦ λ e s. let r = found_at_place p (k + 1) xs i s in (suc r.0, r.1, omega (arith, r.2), r.3, r.4)
    ] refl h

-- one more name, which does not stand earlier
pub repeat_step : (ns : List (List ℕ)) (i : ℕ) → i < length ns
    → list_any (bytes_eq (get_or ns i [])) (take i ns) ≡ false
    → repeat_after (take (i + 1) ns) (drop (i + 1) ns) ≡ repeat_after (take i ns) (drop i ns)
repeat_step ns i l h =
    ap (λ t. repeat_after t (drop (i + 1) ns)) (take_more ns i [] l)
    ∙ ap (λ k. repeat_after (take i ns ++ get_or ns i [] ∷ []) (drop k ns)) (add-one i)
    ∙ sym (ap (λ b. cond b (Some (length (take i ns))) (repeat_after (take i ns ++ get_or ns i [] ∷ []) (drop (suc i) ns))) h)
    ∙ ap (repeat_after (take i ns)) (sym (drop-cons ns i [] l))

-- a name that stands earlier is the first such
pub repeat_here : (ns : List (List ℕ)) (i : ℕ) → i < length ns → list_any (bytes_eq (get_or ns i [])) (take i ns) ≡ true
    → repeat_after (take i ns) (drop i ns) ≡ Some i
repeat_here ns i l h =
    ap (repeat_after (take i ns)) (drop-cons ns i [] l)
    ∙ ap (λ b. cond b (Some (length (take i ns))) (repeat_after (take i ns ++ get_or ns i [] ∷ []) (drop (suc i) ns))) h
    ∙ ap Some (length-take-le i ns (omega arith))

holds_at : {X : Type 0} (P : X → Type 0) (xs : List X) (i : ℕ) (x : X) → AllByRecursion P xs → slice_get xs i ≡ Some x
    → P x
holds_at P [] i x a h = absurd (cc)
holds_at P (y ∷ ys) zero x a h = let e : y ≡ x = cc in subst P e a.0
holds_at P (y ∷ ys) (suc i) x a h = holds_at P ys i x a.1 h

-- a name is at one place
pub place_of_exact : (ns : List (List ℕ)) (k i : ℕ) (s : List ℕ) → IsDistinct bytes_eq ns → slice_get ns i ≡ Some s
    → position_from (λ n. bytes_eq n s) k ns ≡ Some (k + i)
place_of_exact [] k i s d h = absurd (cc)
place_of_exact (x ∷ xs) k zero s d h =
    let e : x ≡ s = cc in
    let n : k ≡ k + 0 = omega arith in
    ap (λ b. cond b (Some k) (position_from (λ n. bytes_eq n s) (k + 1) xs)) ((bytes_eq-Decides x s).1 e) ∙ ap Some n
place_of_exact (x ∷ xs) k (suc i) s d h =
    let e = holds_at (λ y. bytes_eq x y ≡ false) xs i s (IsDistinct-head bytes_eq x xs d) h in
    let n : k + 1 + i ≡ k + suc i = omega arith in
    ap (λ b. cond b (Some k) (position_from (λ n. bytes_eq n s) (k + 1) xs)) e ∙ place_of_exact xs (k + 1) i s (IsDistinct-tail bytes_eq x xs d) h ∙ ap Some n

no_fault_parts : (a b : Bool) (p q : Option ℕ)
    → cond a (Some NoName) (cond b (Some TooManyNames) (worst_place p q)) ≡ None → (b ≡ false) × (q ≡ None)
no_fault_parts true b p q h = absurd (cc)
no_fault_parts false true p q h = absurd (cc)
no_fault_parts false false (Some i) q h = absurd (cc)
no_fault_parts false false None (Some i) h = absurd (cc)
no_fault_parts false false None None h = (refl, refl)

parts : (ns : List (List ℕ)) → names_fault ns ≡ None
    → (nat_lt MOST_REGISTERS (length ns) ≡ false) × (first_repeat ns ≡ None)
parts ns h =
    no_fault_parts (nat_eq (length ns) 0) (nat_lt MOST_REGISTERS (length ns)) (first_bad ns) (first_repeat ns) h

none_alike : IsDistinct bytes_eq []
unfolding IsDistinct
none_alike = tt

-- a search finds the number of a name
pub number_exact : (ns : List (List ℕ)) (s : List ℕ) (i : ℕ) → names_fault ns ≡ None
    → (position_from (λ n. bytes_eq n s) 0 ns ≡ Some i) ↔ (slice_get ns i ≡ Some s)
number_exact ns s i h = (
  λ e. let f = found_at_place (λ n. bytes_eq n s) 0 ns i e in
      let q : i ≡ f.0 = omega (arith, f.2) in
      ap (slice_get ns) q ∙ f.3 ∙ ap Some ((bytes_eq-Decides f.1 s).0 f.4),
  λ e. let z : 0 + i ≡ i = omega arith in place_of_exact ns 0 i s (distinct_after [] ns none_alike (parts ns h).1) e ∙ ap Some z,
)

-- the fault by the two searches
pub fault_is : {A : Type 0} (names : List (String A)) (p q : Option ℕ) → 0 < length names
    → length names ≤ MOST_REGISTERS → p ≡ position_from (λ n. not (is_name (string_bytes n))) 0 names
    → q ≡ first_repeat (texts names) → names_fault (texts names) ≡ worst_place p q
fault_is names p q some few e f =
    let n = length-map names string_bytes in
    let a : nat_eq (length (texts names)) 0 ≡ false = grind (arith, nat_tests) in
    let b : nat_lt MOST_REGISTERS (length (texts names)) ≡ false = grind (arith, nat_tests) in
    let g : first_bad (texts names) ≡ p = position_from_map string_bytes (λ t. not (is_name t)) 0 names ∙ sym e in
    ap (λ x. cond x (Some NoName) (cond (nat_lt MOST_REGISTERS (length (texts names))) (Some TooManyNames) (worst_place (first_bad (texts names)) (first_repeat (texts names))))) a
    ∙ ap (λ x. cond x (Some TooManyNames) (worst_place (first_bad (texts names)) (first_repeat (texts names)))) b
    ∙ ap (λ x. worst_place x (first_repeat (texts names))) g
    ∙ ap (worst_place p) (sym f)

-- a name that stands at a place stands at no other
pub hinted_is : {A : Type 0} (names : List (String A)) (ns : List (List ℕ)) (s : List ℕ) (h : ℕ) → texts names ≡ ns
    → names_fault (texts names) ≡ None → slice_get (texts names) h ≡ Some s → (i : ℕ)
    → (Some h ≡ Some i) ↔ (slice_get ns i ≡ Some s)
hinted_is names ns s h v good here i = (forth, back)
  where
    forth : Some h ≡ Some i → slice_get ns i ≡ Some s
    forth e = ap (λ (t : List (List ℕ)). slice_get t i) (sym v) ∙ (ap (λ (j : ℕ). slice_get (texts names) j) (sym (same_Some h i e)) ∙ here)

    back : slice_get ns i ≡ Some s → Some h ≡ Some i
    back there = sym ((number_exact (texts names) s h good).1 here) ∙ (number_exact (texts names) s i good).1 (ap (λ (t : List (List ℕ)). slice_get t i) v ∙ there)

text_at : {A : Type 0} (names : List (String A)) (place : ℕ) (found : String A) → place < length names
    → found ≡ get_or names place found → slice_get (texts names) place ≡ Some (string_bytes found)
text_at names place found lt is =
    slice_get-map string_bytes names place ∙ (ap (option_map string_bytes) (slice_get-get_or names place found lt) ∙ ap (λ f. Some (string_bytes f)) (sym is))

pub stood_at : {A : Type 0} (names : List (String A)) (place : ℕ) (found : String A) (bytes name : List ℕ)
    → place < length names → found ≡ get_or names place found → bytes ≡ string_bytes found
    → IsTrue (bytes_eq bytes name) → slice_get (texts names) place ≡ Some name
stood_at names place found bytes name lt is same equal =
    text_at names place found lt is ∙ ap Some (sym same ∙ (bytes_eq-Decides bytes name).0 equal)

pub equal_at : {A : Type 0} (names : List (String A)) (place : ℕ) (found : String A) (bytes name : List ℕ)
    → place < length names → found ≡ get_or names place found → bytes ≡ string_bytes found
    → slice_get (texts names) place ≡ Some name → IsTrue (bytes_eq bytes name)
equal_at names place found bytes name lt is same there =
    (bytes_eq-Decides bytes name).1 (same ∙ same_Some (string_bytes found) name (sym (text_at names place found lt is) ∙ there))

pub none_at : {A : Type 0} (names : List (String A)) (place : ℕ) (name : List ℕ) → length names ≤ place
    → slice_get (texts names) place ≢ Some name
none_at names place name ge there =
    let lt = slice_get_within (texts names) place name there in omega (arith, lt, ge, length-map names string_bytes)

-- what a search says of each place
pub found_is : {A : Type 0} (names : List (String A)) (ns : List (List ℕ)) (s : List ℕ) (r : Option ℕ)
    → texts names ≡ ns → names_fault (texts names) ≡ None → IfSome r (λ p. slice_get (texts names) p ≡ Some s)
    → IfNone r ((p : ℕ) → slice_get (texts names) p ≢ Some s) → (i : ℕ) → (r ≡ Some i) ↔ (slice_get ns i ≡ Some s)
found_is names ns s (Some h) v good some none i = hinted_is names ns s h v good some i
found_is names ns s None v good some none i = (
  λ e. absurd (cc),
  λ e. absurd (none i (ap (λ (t : List (List ℕ)). slice_get t i) v ∙ e)),
)

-- names with no fault are not too many
pub few_names : {A : Type 0} (names : List (String A)) → names_fault (texts names) ≡ None
    → length names ≤ MOST_REGISTERS
few_names names h =
    let m = (parts (texts names) h).0 in let n = length-map names string_bytes in grind (arith, nat_tests)
