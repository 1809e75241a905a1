-- The bytes of a state of a process in its chapter.
use Rattle.std.proofs.Common.{◌≡◌, ℕ, ◌+◌, ◌*◌, ◌≤◌, Bool, true, false, List, [], ◌∷◌, ◌++◌, length, take, drop, get_or}
use Rattle.std.proofs.Common.{refl, sym, ap, ap₂, ◌∙◌, arith, append-nil, length-append}
use Rattle.std.specs.Int.{w64, to_be_bytes}
use Rattle.std.proofs.Math.Seq.{take-add}
use Rattle.std.proofs.lemmas.Grind.{flat_map-append}
use Rattle.reg_node.specs.Chapters.{Standing, SpellsStanding, bit, numbers_bytes}

-- one more number
pub numbers_more : (ns : List ℕ) (n : ℕ) → numbers_bytes (ns ++ n ∷ []) ≡ numbers_bytes ns ++ to_be_bytes w64 n
numbers_more ns n =
    flat_map-append (to_be_bytes w64) ns (n ∷ []) ∙ ap (λ x. numbers_bytes ns ++ x) (append-nil (to_be_bytes w64 n))

-- the bytes of so many numbers, and those of one more
pub eight_more : (bytes ns new : List ℕ) (k at n : ℕ) → at ≡ k → take (k * 8) bytes ≡ numbers_bytes ns
    → to_be_bytes w64 n ≡ take 8 (drop (at * 8) bytes) → new ≡ ns ++ n ∷ []
    → take ((k + 1) * 8) bytes ≡ numbers_bytes new
eight_more bytes ns new k at n here so_far is grown =
    let e : (k + 1) * 8 ≡ k * 8 + 8 = omega arith in
    let there = ap (λ i. take 8 (drop (i * 8) bytes)) (sym here) ∙ sym is in
    ap (λ m. take m bytes) e ∙ take-add (k * 8) 8 bytes ∙ ap₂ (λ x y. x ++ y) so_far there ∙ sym (numbers_more ns n) ∙ ap numbers_bytes (sym grown)

length_numbers : (ns : List ℕ) → length (numbers_bytes ns) ≡ length ns * 8
length_numbers [] = refl
length_numbers (n ∷ ns) = let e = length-append (to_be_bytes w64 n) (numbers_bytes ns) in let r = length_numbers ns in let w : length (to_be_bytes w64 n) ≡ 8 = refl in omega (arith, e, r, w)

few_bits : (a b : Bool) → bit a 1 + bit b 2 ≤ 3
few_bits true true = omega arith
few_bits true false = omega arith
few_bits false true = omega arith
few_bits false false = omega arith

-- only bytes of this size and with these flags spell one
pub spelled_size : (n : ℕ) (bytes : List ℕ) (s : Standing) → SpellsStanding n bytes s
    → (length bytes ≡ 9 + n * 8) × (get_or bytes 0 0 ≤ 3)
spelled_size n bytes s is = (
  ap length is.spelled ∙ (let e = length_numbers (s.put ∷ s.accepted) in let c = is.of_all in omega (arith, e, c)),
  (let e = ap (λ l. get_or l 0 0) is.spelled in let f = few_bits s.is_quiet s.is_at_rest in omega (arith, e, f)),
)
