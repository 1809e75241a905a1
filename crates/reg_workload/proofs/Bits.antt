-- Bits that tell of each number whether a test holds, beside the lists of those for which it does.
use Rattle.std.proofs.Common.{◌≡◌, ℕ, zero, suc, ◌+◌, ◌-◌, ◌*◌, ◌%◌, ◌^◌, ◌<◌, ◌≤◌, ◌≢◌, Bool, true, false, List}
use Rattle.std.proofs.Common.{length, count_ones, Some, refl, sym, ap, ◌∙◌, subst, inl, inr, arith, add-one, mod-lt}
use Rattle.std.proofs.Common.{mod-eq_of_lt, length-append}
use lib.Count.{ones, ones_in}
use Rattle.std.specs.Prelude.{slice_get}
use Rattle.std.specs.Int.{bit_at}
use Rattle.std.specs.List.{flat_map, range_with_len}
use Rattle.std.proofs.lemmas.Bool.{cases_lt}
use Rattle.std.proofs.lemmas.Nat.{pow_pos, mod-pow-add, ones_cat}
use Rattle.std.proofs.lemmas.Nat.Bits.{bit_at_above, bit_at-lt}
use Rattle.reg_workload.specs.Listed.{bit_of, AreBits}
use Rattle.reg_workload.proofs.Listing.{flat_suc, found_at}

pub bit_true : (b : Bool) → bit_of b ≡ 1 → b ≡ true
bit_true true e = refl
bit_true false e = let z : zero ≡ 1 = e in absurd (omega (arith, z))

ones_bit : (b : ℕ) → b < 2 → count_ones b ≡ b
unfolding ones ones_in
ones_bit zero l = refl
ones_bit (suc zero) l = refl
ones_bit (suc (suc b)) l = absurd (omega (arith, l))

-- the ones below a place, and one place more
pub one_more : (m k : ℕ) → count_ones (m % 2 ^ (k + 1)) ≡ bit_at m k + count_ones (m % 2 ^ k)
one_more m k =
    let e : k + 1 ≡ 1 + k = omega arith in
    let split : m % 2 ^ (k + 1) ≡ bit_at m k * 2 ^ k + m % 2 ^ k = ap (λ (z : ℕ). m % 2 ^ z) e ∙ mod-pow-add m 1 k in
    ap count_ones split ∙ (ones_cat k (bit_at m k) (m % 2 ^ k) (mod-lt m (pow_pos k)) ∙ ap (λ (z : ℕ). z + count_ones (m % 2 ^ k)) (ones_bit (bit_at m k) (bit_at-lt m k)))

pub none_below : (m : ℕ) → count_ones (m % 2 ^ 0) ≡ 0
none_below m = let z : m % 1 ≡ 0 = omega arith in ap count_ones z ∙ ones_bit 0 (omega arith)

pub all_below : (m k : ℕ) → m < 2 ^ k → count_ones (m % 2 ^ k) ≡ count_ones m
all_below m k l = ap count_ones (mod-eq_of_lt l)

pub place_below : (n m i : ℕ) → m < 2 ^ n → bit_at m i ≡ 1 → i < n
place_below n m i l e = elim (cases_lt i n) [
  | inl less ↦ less
  | inr past ↦ let z : zero ≡ 1 = sym (bit_at_above m n i l past) ∙ e in absurd (omega (arith, z))
]

-- the bits below a place are right, and the others as they were
pub record IsFilled (n to : ℕ) (holds : ℕ → Bool) (known bits : ℕ) : Type 0 where
  pub few : bits < 2 ^ n
  pub right : (i : ℕ) → i < to → bit_at bits i ≡ bit_of (holds i)
  pub rest : (i : ℕ) → to ≤ i → i < n → bit_at bits i ≡ bit_at known i

pub filled_none : (n : ℕ) (holds : ℕ → Bool) (known : ℕ) → known < 2 ^ n → IsFilled n 0 holds known known
filled_none n holds known few = record { few = few; right = λ i l. absurd (omega (arith, l)); rest = λ i _ _. refl }

pub filled_more : (n to : ℕ) (holds : ℕ → Bool) (known old new : ℕ) → to < n → IsFilled n to holds known old
    → new < 2 ^ n → bit_at new to ≡ bit_of (holds to) → ((i : ℕ) → i < n → i ≢ to → bit_at new i ≡ bit_at old i)
    → IsFilled n (to + 1) holds known new
filled_more n to holds known old new lt F few here same = record {
  few = few;
  right = λ i l. elim (cases_lt i to) [
    | inl less ↦ same i (omega (arith, less, lt)) (λ e. omega (arith, e, less)) ∙ F.right i less
    | inr past ↦ let e : to ≡ i = omega (arith, l, past) in subst (λ k. bit_at new k ≡ bit_of (holds k)) e here
  ];
  rest = λ i l m. same i m (λ e. omega (arith, e, l)) ∙ F.rest i (omega (arith, l)) m;
}

pub filled_all : (n to : ℕ) (holds : ℕ → Bool) (known bits : ℕ) → to ≡ n → IsFilled n to holds known bits
    → AreBits n holds bits
filled_all n to holds known bits e F = record { few = F.few; each = λ i l. F.right i (omega (arith, e, l)) }

-- so many places are left, and whether this bit is the one
pub counted_down : (count below above left here bit : ℕ) → count ≡ below + left → above ≡ bit + below → here ≡ bit
    → here ≤ left → count ≡ above + (left - here)
counted_down count below above left here bit p q r l = omega (arith, p, q, r, l)

pub is_here : (count below left here bit : ℕ) → count ≡ below + left → here ≡ bit → bit < 2 → left < here
    → (bit ≡ 1) × (count ≡ below)
is_here count below left here bit p r b l = (omega (arith, p, r, b, l), omega (arith, p, r, b, l))

sum_up : (a b c d e f h : ℕ) → a ≡ b + c → b ≡ d → c ≡ e → f ≡ e → h ≡ f + d → a ≡ h
sum_up a b c d e f h p q r s t = omega (arith, p, q, r, s, t)

-- the lists of those numbers for which the test holds have one member each, and the others none
module _ {X : Type 0} (n m : ℕ) (holds : ℕ → Bool) (list : ℕ → List X) (B : AreBits n holds m) (one : (i : ℕ) → length (list i) ≡ bit_of (holds i)) where
  below : (k : ℕ) → k ≤ n → length (flat_map list (range_with_len 0 k)) ≡ count_ones (m % 2 ^ k)
  below zero l = sym (none_below m)
  below (suc k) l =
      let lt : k < n = omega (arith, l) in
      sum_up (length (flat_map list (range_with_len 0 (suc k)))) (length (flat_map list (range_with_len 0 k))) (length (list k)) (count_ones (m % 2 ^ k)) (bit_of (holds k)) (bit_at m k) (count_ones (m % 2 ^ suc k))
      (ap length (flat_suc list k) ∙ length-append (flat_map list (range_with_len 0 k)) (list k))
      (below k (omega (arith, l)))
      (one k)
      (B.each k lt)
      (ap (λ (z : ℕ). count_ones (m % 2 ^ z)) (sym (add-one k)) ∙ one_more m k)

  pub all_are : length (flat_map list (range_with_len 0 n)) ≡ count_ones m
  all_are = below n (omega arith) ∙ all_below m n B.few

  -- the member of a number stands after as many as there are ones below its bit
  pub stands_at : (i place : ℕ) (x : X) → bit_at m i ≡ 1 → place ≡ count_ones (m % 2 ^ i)
      → (holds i ≡ true → slice_get (list i) 0 ≡ Some x) → slice_get (flat_map list (range_with_len 0 n)) place ≡ Some x
  stands_at i place x set is at =
      let l = place_below n m i B.few set in
      let b = below i (omega (arith, l)) in
      found_at list i n 0 place x l (omega (arith, is, b)) (at (bit_true (holds i) (sym (B.each i l) ∙ set)))
