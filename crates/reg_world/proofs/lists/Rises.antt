-- Lists in which each element stands in a relation to all later ones.
use Rattle.std.proofs.Common.{◌≡◌, ◌≢◌, ℕ, zero, suc, ◌+◌, ◌<◌, ◌≤◌, Bool, true, false, cond, List, [], ◌∷◌, ◌++◌, map}
use Rattle.std.proofs.Common.{length, Some, refl, sym, ap, ◌∙◌, subst, inl, inr, arith}
use Rattle.std.specs.List.{filter}
use Rattle.std.specs.Prelude.{slice_index_or}
use Rattle.std.proofs.lemmas.Option.{same_Some}
use Rattle.std.proofs.lemmas.Bool.{cond_both}
use Rattle.reg_base.specs.Order.{In}
use Rattle.reg_checkers.specs.History.{IsAt}
use Rattle.reg_world.proofs.lists.Bodies.{place_in}
use Rattle.reg_base.proofs.Lists.{in_cases}
use Rattle.reg_world.proofs.lists.Members.{map_in}

abbrev pub RisesBy : {X : Type 0} → (X → X → Type 0) → List X → Type 0
RisesBy R [] = Unit {0}
RisesBy {X} R (x ∷ xs) = ((y : X) → In y xs → R x y) × RisesBy R xs

pub rises_at : {X : Type 0} (R : X → X → Type 0) (xs : List X) (i j : ℕ) (a b : X) → RisesBy R xs → IsAt xs i a
    → IsAt xs j b → i < j → R a b
rises_at R [] i j a b r at1 at2 lt = absurd cc
rises_at R (x ∷ xs) zero zero a b r at1 at2 lt = absurd (omega arith)
rises_at R (x ∷ xs) zero (suc j) a b r at1 at2 lt = subst (λ z. R z b) (same_Some x a at1) (r.0 b (place_in xs j b at2))
rises_at R (x ∷ xs) (suc i) zero a b r at1 at2 lt = absurd (omega arith)
rises_at R (x ∷ xs) (suc i) (suc j) a b r at1 at2 lt = rises_at R xs i j a b r.1 at1 at2 (omega arith)

pub rises_from_places : {X : Type 0} (R : X → X → Type 0) (xs : List X)
    → ((i j : ℕ) (a b : X) → IsAt xs i a → IsAt xs j b → i < j → R a b) → RisesBy R xs
rises_from_places R [] h = tt
rises_from_places {X = X} R (x ∷ xs) h = (λ y i. let p = found xs y i in h 0 (suc p.0) x y refl p.1 (omega arith), rises_from_places R xs (λ i j a b at1 at2 lt. h (suc i) (suc j) a b at1 at2 (omega arith)))
  where
    found : (xs : List X) (y : X) → In y xs → (k : ℕ) × IsAt xs k y
    found [] y i = absurd i
    found (z ∷ zs) y (inl e) = (0, ap Some (sym e))
    found (z ∷ zs) y (inr i) = let r = found zs y i in (suc r.0, r.1)

pub rises_append : {X : Type 0} (R : X → X → Type 0) (xs ys : List X) → RisesBy R xs → RisesBy R ys
    → ((x y : X) → In x xs → In y ys → R x y) → RisesBy R (xs ++ ys)
rises_append R [] ys r s h = s
rises_append R (x ∷ xs) ys r s h = (λ y i. elim (in_cases y xs ys i) [ inl k ↦ r.0 y k | inr k ↦ h x y (inl refl) k ], rises_append R xs ys r.1 s (λ a b i j. h a b (inr i) j))

pub rises_map : {X Y : Type 0} (R : X → X → Type 0) (S : Y → Y → Type 0) (f : X → Y) (xs : List X) → RisesBy R xs
    → ((a b : X) → In a xs → In b xs → R a b → S (f a) (f b)) → RisesBy S (map f xs)
rises_map R S f [] r h = tt
rises_map {Y = Y} R S f (x ∷ xs) r h = (
  λ y i. let p = map_in f y xs i in subst (λ z. S (f x) z) (sym p.2) (h x p.0 (inl refl) (inr p.1) (r.0 p.0 p.1)),
  rises_map R S f xs r.1 (λ a b i j. h a b (inr i) (inr j)),
)

not_true : (b : Bool) → (b ≡ true → ⊥) → b ≡ false
not_true true h = absurd (h refl)
not_true false h = refl

pub in_kept : {X : Type 0} (p : X → Bool) (c : X) (xs : List X) → In c (filter p xs) → In c xs × (p c ≡ true)
in_kept p c [] h = absurd h
in_kept p c (x ∷ xs) h =
    cond_both (p x) (x ∷ filter p xs) (filter p xs) (λ l. In c l → In c (x ∷ xs) × (p c ≡ true))
    (λ e k. elim k [ inl q ↦ (inl q, ap p q ∙ e) | inr q ↦ let r = in_kept p c xs q in (inr r.0, r.1) ])
    (λ e k. let r = in_kept p c xs k in (inr r.0, r.1))
    h

pub kept_in : {X : Type 0} (p : X → Bool) (c : X) (xs : List X) → In c xs → p c ≡ true → In c (filter p xs)
kept_in p c [] h e = absurd h
kept_in p c (x ∷ xs) h e =
    cond_both (p x) (x ∷ filter p xs) (filter p xs) (λ l. In c (x ∷ xs) → In c l)
    (λ q k. elim k [ inl z ↦ inl z | inr z ↦ inr (kept_in p c xs z e) ])
    (λ q k. elim k [ inl z ↦ absurd (let t : true ≡ false = sym e ∙ (ap p z ∙ q) in cc) | inr z ↦ kept_in p c xs z e ])
    h

pub rises_filter : {X : Type 0} (R : X → X → Type 0) (p : X → Bool) (xs : List X) → RisesBy R xs
    → RisesBy R (filter p xs)
rises_filter R p [] r = tt
rises_filter R p (x ∷ xs) r =
    cond_both (p x) (x ∷ filter p xs) (filter p xs) (RisesBy R)
    (λ e. (λ y i. r.0 y (in_kept p y xs i).0, rises_filter R p xs r.1))
    (λ e. rises_filter R p xs r.1)

-- at most one
abbrev pub IsFew : {X : Type 0} → List X → Type 0
IsFew xs = length xs ≤ 1

-- of different elements a test that tells them apart passes one
pub few_kept : {X : Type 0} (p : X → Bool) (xs : List X) → RisesBy (λ (a b : X). a ≢ b) xs
    → ((a b : X) → p a ≡ true → p b ≡ true → a ≡ b) → IsFew (filter p xs)
few_kept p [] r one = omega arith
few_kept {X = X} p (x ∷ xs) r one =
    cond_both (p x) (x ∷ filter p xs) (filter p xs) IsFew
    (λ e. let l = ap length (none xs e r.0) in omega (arith, l))
    (λ e. few_kept p xs r.1 one)
  where
    none : (ys : List X) → p x ≡ true → ((y : X) → In y ys → x ≢ y) → filter p ys ≡ []
    none [] e h = refl
    none (y ∷ ys) e h = ap (λ b. cond b (y ∷ filter p ys) (filter p ys)) (not_true (p y) (λ q. h y (inl refl) (one x y e q))) ∙ none ys e (λ z i. h z (inr i))

-- what no test passes twice stands apart
pub apart_from_few : {X : Type 0} (p : X → X → Bool) (ys : List X) → ((x : X) → p x x ≡ true)
    → ((x : X) → IsFew (filter (p x) ys)) → RisesBy (λ (a b : X). a ≢ b) ys
apart_from_few p [] self few = tt
apart_from_few {X = X} p (y ∷ ys) self few =
    (apart, apart_from_few p ys self (λ x. let f = few x in shorter x (p x y) f))
  where
    shorter : (x : X) (b : Bool) → IsFew (cond b (y ∷ filter (p x) ys) (filter (p x) ys)) → IsFew (filter (p x) ys)
    shorter x true f = omega (arith, f)
    shorter x false f = f

    some : (z : X) (l : List X) → In z l → 0 < length l
    some z [] i = absurd i
    some z (x ∷ l) i = omega arith

    apart : (z : X) → In z ys → y ≢ z
    apart z i e =
        let k = some y (filter (p y) ys) (kept_in (p y) y ys (subst (λ u. In u ys) (sym e) i) (self y)) in
        let f : IsFew (y ∷ filter (p y) ys) = ap_head (p y y) (self y) (few y) in
        omega (arith, k, f)
      where
        ap_head : (b : Bool) → b ≡ true → IsFew (cond b (y ∷ filter (p y) ys) (filter (p y) ys)) → IsFew (y ∷ filter (p y) ys)
        ap_head true q f = f
        ap_head false q f = let bad : ⊥ = cc in absurd bad

-- neighbours that don't fall and stand apart rise
pub rises_from_sorted : {X : Type 0} (R : X → X → Type 0) (lt : X → X → Bool) (ys : List X)
    → ((a b : X) → lt b a ≡ false → a ≢ b → R a b) → ((a b c : X) → R a b → R b c → R a c)
    → ((k : ℕ) (d : X) → k + 1 < length ys → lt (slice_index_or ys (k + 1) d) (slice_index_or ys k d) ≡ false) → RisesBy (λ (a b : X). a ≢ b) ys → RisesBy R ys
rises_from_sorted R lt [] up trans sorted apart = tt
rises_from_sorted R lt (x ∷ []) up trans sorted apart = (λ y i. absurd i, tt)
rises_from_sorted {X = X} R lt (x ∷ y ∷ ys) up trans sorted apart =
    let rest = rises_from_sorted R lt (y ∷ ys) up trans (λ k d less. next k d less) apart.1 in
    let here : R x y = up x y (sorted 0 x (omega arith)) (apart.0 y (inl refl)) in
    (λ z i. elim i [ inl e ↦ subst (λ u. R x u) (sym e) here | inr j ↦ trans x y z here (rest.0 z j) ], rest)
  where
    next : (k : ℕ) (d : X) → k + 1 < length (y ∷ ys) → lt (slice_index_or (y ∷ ys) (k + 1) d) (slice_index_or (y ∷ ys) k d) ≡ false
    next k d less =
        let one : suc k + 1 ≡ suc (k + 1) = omega arith in
        subst (λ j. lt (slice_index_or (x ∷ y ∷ ys) j d) (slice_index_or (y ∷ ys) k d) ≡ false) one (sorted (suc k) d (omega arith))

pub rises_weaker : {X : Type 0} (R S : X → X → Type 0) (xs : List X) → RisesBy R xs
    → ((a b : X) → In a xs → In b xs → R a b → S a b) → RisesBy S xs
rises_weaker R S [] r h = tt
rises_weaker R S (x ∷ xs) r h =
    (λ y i. h x y (inl refl) (inr i) (r.0 y i), rises_weaker R S xs r.1 (λ a b i j. h a b (inr i) (inr j)))
