-- The counts of an operation, raised to those of another.
use Rattle.std.proofs.Common.{◌≡◌, inl, inr, ◌⊎◌, ℕ, zero, suc, ◌+◌, ◌*◌, ◌<◌, ◌≤◌, List, [], ◌∷◌, ◌++◌, length, get_or}
use Rattle.std.proofs.Common.{take, drop, Some, option_and_then, set, slice_get, Vec, refl, ap, ap₂, sym, ◌∙◌, subst}
use Rattle.std.proofs.Common.{arith, max, length-append, length-take, length-drop}
use Rattle.std.proofs.lemmas.Bool.{cases_eq, cases_lt}
use Rattle.std.proofs.lemmas.Nat.{same_from_place}
use Rattle.std.proofs.lemmas.Option.{same_Some, slice_get-get_or, slice_get_within}
use Rattle.reg_base.specs.declared.memory.OpId.{OpId}
use Rattle.reg_checkers.specs.History.{IsFinished}
use Rattle.reg_checkers.specs.Progress.{op_of}
use Rattle.reg_checkers.proofs.Places.{get_set_other, get_set_same, in_take}
use Rattle.reg_outcomes.specs.declared.orders.before.Before.{Before}
use Rattle.reg_outcomes.specs.Forced.{AreForced, AreRaised, Comes, Counts, IsCount, count_at, word_at}
use Rattle.reg_outcomes.specs.Sought.{Sought}
use Rattle.reg_outcomes.proofs.Forced.{comes_through}

-- one count more, raised to another
pub raised_at : (others old new : List ℕ) (place value : ℕ) → value ≡ max (get_or new place 0) (get_or others place 0)
    → place < length new → place < length others → AreRaised others old new → AreRaised others old (set new place value)
raised_at others old new place value is inside within raised p k read = elim (cases_eq p place) [
  | inr apart ↦ raised p k (sym (get_set_other new place p value apart) ∙ read)
  | inl same ↦
      let now : value ≡ k = same_Some value k (sym (get_set_same new place value inside) ∙ (ap (slice_get (set new place value)) (sym same) ∙ read)) in
      elim (cases_lt (get_or new place 0) (get_or others place 0)) [
        | inl less ↦ let e : get_or others place 0 ≡ k = omega (arith, is, now, less) in inr (ap (slice_get others) same ∙ (slice_get-get_or others place 0 within ∙ ap Some e))
        | inr more ↦ let e : get_or new place 0 ≡ k = omega (arith, is, now, more) in raised p k (ap (slice_get new) same ∙ (slice_get-get_or new place 0 inside ∙ ap Some e))
      ]
]

in_front : {X : Type 0} (ys zs : List X) (i : ℕ) → i < length ys → slice_get (ys ++ zs) i ≡ slice_get ys i
in_front [] zs i lt = absurd (omega (arith, lt))
in_front (y ∷ ys) zs zero lt = refl
in_front (y ∷ ys) zs (suc i) lt = in_front ys zs i (omega (arith, lt))

past : {X : Type 0} (ys xs : List X) (i : ℕ) → length ys ≤ length xs → length ys ≤ i
    → slice_get (ys ++ drop (length ys) xs) i ≡ slice_get xs i
past [] xs i fits le = refl
past (y ∷ ys) [] i fits le = absurd (omega (arith, fits))
past (y ∷ ys) (x ∷ xs) zero fits le = absurd (omega (arith, le))
past (y ∷ ys) (x ∷ xs) (suc i) fits le = past ys xs i (omega (arith, fits)) (omega (arith, le))

-- a part of a list raised
pub part_raised : (others xs ys : List ℕ) (a n : ℕ) → length ys ≡ n → a + n ≤ length xs
    → AreRaised others (take n (drop a xs)) ys → (place k : ℕ)
    → slice_get (take a xs ++ (ys ++ drop n (drop a xs))) place ≡ Some k
    → (slice_get xs place ≡ Some k) ⊎ ((j : ℕ) × (place ≡ a + j) × (j < n) × (slice_get others j ≡ Some k))
part_raised others xs ys zero n long fits raised place k read = elim (cases_lt place n) [
  | inl lt ↦ elim (raised place k (sym (in_front ys (drop n xs) place (omega (arith, lt, long))) ∙ read)) [
    | inl was ↦ inl (in_take xs n place k was).1
    | inr other ↦ inr (place, omega arith, lt, other)
  ]
  | inr more ↦ inl (sym (past ys xs place (omega (arith, long, fits)) (omega (arith, long, more))) ∙ subst (λ (m : ℕ). slice_get (ys ++ drop m xs) place ≡ Some k) (sym long) read)
]
part_raised others [] ys (suc a) n long fits raised place k read = absurd (omega (arith, fits))
part_raised others (x ∷ xs) ys (suc a) n long fits raised zero k read = inl read
part_raised others (x ∷ xs) ys (suc a) n long fits raised (suc place) k read =
    elim (part_raised others xs ys a n long (omega (arith, fits)) raised place k read) [
      | inl was ↦ inl was
      | inr (j, at, lt, other) ↦ inr (j, omega (arith, at), lt, other)
    ]

part_long : (xs ys : List ℕ) (a n : ℕ) → length ys ≡ n → a + n ≤ length xs
    → length (take a xs ++ (ys ++ drop n (drop a xs))) ≡ length xs
part_long xs ys a n long fits =
    let zs = drop n (drop a xs) in
    omega (arith, length-append (take a xs) (ys ++ zs), length-append ys zs, length-take a xs, length-drop n (drop a xs), length-drop a xs, long, fits)

-- the same, as it is written back: what stands past the length is cut
pub written : (others xs ys rest : List ℕ) (a n long : ℕ) → length ys ≡ n → a + n ≤ length xs → long ≡ length xs
    → AreRaised others (take n (drop a xs)) ys → (place k : ℕ)
    → slice_get (take long ((take a xs ++ (ys ++ drop n (drop a xs))) ++ rest)) place ≡ Some k
    → (slice_get xs place ≡ Some k) ⊎ ((j : ℕ) × (place ≡ a + j) × (j < n) × (slice_get others j ≡ Some k))
written others xs ys rest a n long count fits whole raised place k read =
    let ws = take a xs ++ (ys ++ drop n (drop a xs)) in
    let there = in_take (ws ++ rest) long place k read in
    let same : length ws ≡ length xs = part_long xs ys a n count fits in
    let inside : place < length ws = omega (arith, there.0, whole, same) in
    part_raised others xs ys a n count fits raised place k (sym (in_front ws rest place inside) ∙ there.1)

-- one row changed
row_changed : {A : Type 0} (rows : Counts A) (q : ℕ) (row new : Vec ℕ A) → slice_get rows q ≡ Some row → (place p k : ℕ)
    → count_at place p (set rows q new) ≡ Some k
    → (count_at place p rows ≡ Some k) ⊎ ((p ≡ q) × (slice_get new.items place ≡ Some k))
row_changed rows q row new there place p k read = elim (cases_eq p q) [
  | inr other ↦ inl (ap (option_and_then (word_at place)) (sym (get_set_other rows q p new other)) ∙ read)
  | inl same ↦
      let now : slice_get (set rows q new) p ≡ Some new = ap (slice_get (set rows q new)) same ∙ get_set_same rows q new (slice_get_within rows q row there) in
      inr (same, ap (option_and_then (word_at place)) (sym now) ∙ read)
]

-- the counts of an operation raised
pub counts_raised : {A : Type 0} (old new : Before A) (id : OpId) (others : List ℕ) (q start : ℕ) (row raised : Vec ℕ A)
    → new.processes ≡ old.processes → new.counts.items ≡ set old.counts.items q raised
    → slice_get old.counts.items q ≡ Some row → q ≡ id.process
    → start ≡ id.number * old.processes + 0
    → ((place k : ℕ) → slice_get raised.items place ≡ Some k → (slice_get row.items place ≡ Some k) ⊎ ((j : ℕ) × (place ≡ start + j) × (j < old.processes) × (slice_get others j ≡ Some k))) → (x : OpId) (p k : ℕ) → IsCount new x p k
    → IsCount old x p k ⊎ ((x ≡ id) × (slice_get others p ≡ Some k))
counts_raised {A = A} old new id others q start row raised same counts there own begins one_of x p k (lt, is) =
    let less : p < old.processes = subst (λ (n : ℕ). p < n) same lt in
    let place : ℕ = x.number * old.processes + p in
    let read : count_at place x.process (set old.counts.items q raised) ≡ Some k = subst (λ (rows : Counts A). count_at place x.process rows ≡ Some k) counts (subst (λ (n : ℕ). count_at (x.number * n + p) x.process new.counts.items ≡ Some k) same is) in
    elim (row_changed old.counts.items q row raised there place x.process k read) [
      | inl was ↦ inl (less, was)
      | inr (of, here) ↦ elim (one_of place k here) [
        | inl was ↦ inl (less, ap (option_and_then (word_at place)) (ap (slice_get old.counts.items) of ∙ there) ∙ was)
        | inr (j, at, inside, other) ↦
            let both = same_from_place x.number p id.number j old.processes less inside (omega (arith, at, begins)) in
            inr (ap₂ op_of (of ∙ own) both.0, ap (slice_get others) both.1 ∙ other)
      ]
    ]

-- what comes before an operation comes before what it comes before
pub joined_forced : {A : Type 0} (s : Sought) (old new : Before A) (earlier later : OpId)
    → ((x : OpId) (p k : ℕ) → IsCount new x p k → IsCount old x p k ⊎ ((x ≡ later) × IsCount old earlier p k))
    → IsFinished s.entries earlier → Comes s earlier later → AreForced s old
    → AreForced s new
joined_forced s old new earlier later one_of fin comes forced x p m k is lt = elim (one_of x p k is) [
  | inl was ↦ forced x p m k was lt
  | inr (same, other) ↦ subst (λ (y : OpId). Comes s (op_of p m) y) (sym same) (comes_through s (op_of p m) earlier later fin (forced earlier p m k other lt) comes)
]
