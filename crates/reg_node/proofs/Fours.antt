-- A CRC-32 goes on over four bits of zeros at once: by what they make of the lowest four bits of its register.
use Rattle.std.proofs.Common.{◌≡◌, ℕ, zero, suc, ◌+◌, ◌*◌, ◌/◌, ◌%◌, ◌^◌, ◌<◌, Bool, true, false, List, [], ◌∷◌}
use Rattle.std.proofs.Common.{slice_index_or, refl, sym, ap, ap₂, ◌∙◌, arith}
use Rattle.std.specs.Prelude.{◌==◌, if◌then◌else◌, map}
use Rattle.std.proofs.lemmas.List.FromFn.{get_or-map-range_with_len}
use Rattle.std.specs.List.{range_with_len}
use Rattle.std.specs.Int.Bits.{bit_xor, xor_assoc, xor_shifted, xor_zero_r}
use Rattle.std.proofs.lemmas.Nat.{xor_comm, xor_mod, xor_shr}
use Rattle.reg_node.specs.Fours.{crc_four}
use Rattle.reg_node.specs.Seals.{crc_bit}

-- what the lowest bit adds
abbrev added : ℕ → ℕ
added r = if r == 1 then 3988292384 else 0

picked : (b : Bool) (h : ℕ) → (if b then bit_xor h 3988292384 else h) ≡ bit_xor h (if b then 3988292384 else 0)
picked true h = refl
picked false h = sym (xor_zero_r h)

one-is : (c : ℕ) → crc_bit c ≡ bit_xor (c / 2) (added (c % 2))
unfolding crc_bit
one-is c = picked (c % 2 == 1) (c / 2)

added_of_both : (r s : ℕ) → r < 2 → s < 2 → added (bit_xor r s) ≡ bit_xor (added r) (added s)
added_of_both zero s h k = refl
added_of_both (suc zero) zero h k = refl
added_of_both (suc zero) (suc zero) h k = refl
added_of_both (suc zero) (suc (suc s)) h k = absurd (omega arith)
added_of_both (suc (suc r)) s h k = absurd (omega arith)

turned : (a b c d : ℕ) → bit_xor (bit_xor a b) (bit_xor c d) ≡ bit_xor (bit_xor a c) (bit_xor b d)
turned a b c d =
    xor_assoc a b (bit_xor c d)
    ∙ ap (bit_xor a) (sym (xor_assoc b c d) ∙ ap (λ n. bit_xor n d) (xor_comm b c) ∙ xor_assoc c b d)
    ∙ sym (xor_assoc a c (bit_xor b d))

below : (n : ℕ) → n % 2 < 2
below n = omega arith

linear : (a b : ℕ) → crc_bit (bit_xor a b) ≡ bit_xor (crc_bit a) (crc_bit b)
linear a b =
    one-is (bit_xor a b)
    ∙ ap₂ bit_xor (xor_shr a b 1) (ap added (xor_mod a b 1) ∙ added_of_both (a % 2) (b % 2) (below a) (below b))
    ∙ turned (a / 2) (b / 2) (added (a % 2)) (added (b % 2))
    ∙ sym (ap₂ bit_xor (one-is a) (one-is b))

four_linear : (a b : ℕ) → crc_four (bit_xor a b) ≡ bit_xor (crc_four a) (crc_four b)
unfolding crc_four
four_linear a b =
    ap (λ n. crc_bit (crc_bit (crc_bit n))) (linear a b)
    ∙ ap (λ n. crc_bit (crc_bit n)) (linear (crc_bit a) (crc_bit b))
    ∙ ap crc_bit (linear (crc_bit (crc_bit a)) (crc_bit (crc_bit b)))
    ∙ linear (crc_bit (crc_bit (crc_bit a))) (crc_bit (crc_bit (crc_bit b)))

even : (n : ℕ) → crc_bit (n * 2) ≡ n
unfolding crc_bit
even n =
    let none : n * 2 % 2 ≡ 0 = omega arith in
    let half : n * 2 / 2 ≡ n = omega arith in
    ap (λ r. if r == 1 then bit_xor (n * 2 / 2) 3988292384 else n * 2 / 2) none ∙ half

high : (n : ℕ) → crc_four (n * 16) ≡ n
unfolding crc_four
high n =
    let a : n * 16 ≡ n * 8 * 2 = omega arith in
    let b : n * 8 ≡ n * 4 * 2 = omega arith in
    let c : n * 4 ≡ n * 2 * 2 = omega arith in
    ap (λ k. crc_bit (crc_bit (crc_bit k))) (ap crc_bit a ∙ even (n * 8))
    ∙ ap (λ k. crc_bit (crc_bit k)) (ap crc_bit b ∙ even (n * 4))
    ∙ ap crc_bit (ap crc_bit c ∙ even (n * 2))
    ∙ even n

parted : (c : ℕ) → c ≡ bit_xor (c / 16 * 16) (c % 16)
parted c =
    let low : c % 16 < 2 ^ 4 = omega arith in
    let whole : c / 16 * 16 + c % 16 ≡ c = omega arith in
    sym (xor_shifted (c / 16) 4 (c % 16) low ∙ whole)

by_lowest : (c : ℕ) → crc_four c ≡ bit_xor (c / 16) (crc_four (c % 16))
by_lowest c = ap crc_four (parted c) ∙ four_linear (c / 16 * 16) (c % 16) ∙ ap (λ h. bit_xor h (crc_four (c % 16))) (high (c / 16))

abbrev pub fours : List ℕ
fours = 0 ∷ 498536548 ∷ 997073096 ∷ 651767980 ∷ 1994146192 ∷ 1802195444 ∷ 1303535960 ∷ 1342533948 ∷ 3988292384 ∷ 4027552580 ∷ 3604390888 ∷ 3412177804 ∷ 2607071920 ∷ 2262029012 ∷ 2685067896 ∷ 3183342108 ∷ []

all : fours ≡ map crc_four (range_with_len 0 16)
unfolding crc_bit crc_four
all = refl

of_lowest : (n : ℕ) → n < 16 → slice_index_or fours n 0 ≡ crc_four n
of_lowest n small =
    ap (λ xs. slice_index_or xs n 0) all ∙ get_or-map-range_with_len crc_four 0 16 n n 0 small (omega arith)

pub by_table : (c : ℕ) → bit_xor (c / 16) (slice_index_or fours (c % 16) 0) ≡ crc_four c
by_table c =
    let low : c % 16 < 16 = omega arith in
    ap (bit_xor (c / 16)) (of_lowest (c % 16) low) ∙ sym (by_lowest c)
