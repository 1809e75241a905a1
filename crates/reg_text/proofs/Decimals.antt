-- What `parse` answers for the text of a number, and what its answer says of the text.
use Rattle.std.proofs.Common.{ℕ, zero, suc, ◌≡◌, ◌<◌, ◌^◌, List, [], ◌∷◌, get_or, Ok, Err, Result, Some, None, refl}
use Rattle.std.proofs.Common.{sym, ap, subst, ◌∙◌, arith, inl, inr, ◌⊎◌}
use Rattle.std.specs.Fmt.{decimal}
use Rattle.std.specs.Result.{result_ok}
use Rattle.std.specs.Str.Parse.{ParsesUnsigned, AllDigits, digits_value}
use Rattle.reg_text.specs.Plain.{IsPlain}
use Rattle.std.proofs.lemmas.Str.{IsUtf8-from_ascii}
use Rattle.std.specs.Str.{IsUtf8}
use Rattle.std.proofs.lemmas.Fmt.{IsAscii-decimal, decimal-digits_value, first_decimal, decimal_digit, decimal_nonempty}
use Rattle.std.proofs.lemmas.Str.Parse.{IsNumeralModel, numerals_by_value, tells_digits, parse_plain}

-- what std's own words for digits are
pub own : IsNumeralModel (AllDigits 10) (digits_value 10)
own = numerals_by_value (AllDigits 10) tells_digits

pub first_is : (n : ℕ) → n < 2 ^ 64 → (decimal n ≡ 48 ∷ []) ⊎ (48 < get_or (decimal n) 0 0)
first_is zero small = inl (decimal_digit 0 (omega arith))
first_is (suc n) small = inr (first_decimal (suc n) (omega arith) small)

pub plain_decimal : (n : ℕ) → n < 2 ^ 64 → IsPlain (decimal n)
plain_decimal n small = elim (first_is n small) [
  | inl d ↦ let P : List ℕ → Type 0 = IsPlain in subst P (sym d) (omega arith, λ e. omega (arith, e), λ e. refl)
  | inr more ↦ (decimal_nonempty n small, λ e. omega (arith, e, more), λ e. absurd (omega (arith, e, more)))
]

pub read_back : {E : Type 0} (bs : List ℕ) (r : Result ℕ E) (n : ℕ) → ParsesUnsigned 64 10 bs r → r ≡ Ok n → IsPlain bs
    → (bs ≡ decimal n) × (n < 2 ^ 64)
read_back {E} bs r n h e plain =
    let P : Result ℕ E → Type 0 = λ s. ParsesUnsigned 64 10 bs s in
    let q = parse_plain own {E = E} 64 bs (Ok n) (subst P e h) plain.1 in
    let back : decimal (digits_value 10 bs) ≡ bs = decimal-digits_value own bs q.0.0 q.0.1 plain.2 q.0.2 in
    let Q : ℕ → Type 0 = λ x. x < 2 ^ 64 in
    (sym back ∙ ap decimal (sym q.1), subst Q (sym q.1) q.0.2)

pub plain_text : (bs : List ℕ) (n : ℕ) → n < 2 ^ 64 → bs ≡ decimal n → IsPlain bs
plain_text bs n small e = let P : List ℕ → Type 0 = IsPlain in subst P (sym e) (plain_decimal n small)

pub utf8_text : (bs : List ℕ) (n : ℕ) → n < 2 ^ 64 → bs ≡ decimal n → IsUtf8 bs
utf8_text bs n small e =
    let P : List ℕ → Type 0 = IsUtf8 in subst P (sym e) (IsUtf8-from_ascii (decimal n) (IsAscii-decimal n small))

-- a result has one answer
pub ok_same : {E : Type 0} (r : Result ℕ E) (m n : ℕ) → r ≡ Ok m → r ≡ Ok n → Some m ≡ Some n
ok_same r m n p q = ap result_ok (sym p ∙ q)

pub no_error : {E : Type 0} {A : Type 0} (r : Result ℕ E) (e : E) (n : ℕ) → r ≡ Err e → r ≡ Ok n → A
no_error r e n p q = let both : None ≡ Some n = ap result_ok (sym p ∙ q) in absurd (cc)
