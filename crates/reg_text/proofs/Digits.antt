-- A number, and the spaces after it.
use Rattle.std.proofs.Common.{ℕ, zero, suc, ◌≡◌, ◌-◌, ◌<◌, ◌≤◌, ◌^◌, ◌==◌, not, Bool, true, List, [], ◌∷◌, ◌++◌, length}
use Rattle.std.proofs.Common.{take, drop, replicate, refl, sym, ap, subst, ◌∙◌, arith, rules, Option, None, Some}
use Rattle.std.proofs.Common.{IfSome}
use Rattle.std.specs.List.{prefix_len, list_all}
use Rattle.std.specs.Fmt.{decimal}
use Rattle.std.specs.Str.Parse.{AllDigits}
use Rattle.reg_text.specs.Columns.{to_left}
use Rattle.std.proofs.lemmas.List.{length-drop, length-take-le, take-append-drop}
use Rattle.std.proofs.Math.Seq.{take-append_seam, drop-append_seam}
use Rattle.std.proofs.lemmas.Str.Parse.{digit_from_value}
use Rattle.std.proofs.lemmas.Fmt.{digits_decimal}
use Rattle.reg_text.proofs.Decimals.{own}
use Rattle.reg_text.proofs.Spaces.{is_space}
use Rattle.reg_text.proofs.Parts.{rest_of}

abbrev pub no_blank : ℕ → Bool
no_blank b = not (b == 32)

pub blank_is : (l : List ℕ) → list_all is_space l ≡ true → l ≡ replicate (length l) 32
blank_is [] h = refl
blank_is (b ∷ l) h =
    let same : b ≡ 32 = search (rules, h) in
    let others : list_all is_space l ≡ true = search (rules, h) in
    rw same (ap (λ r. 32 ∷ r) (blank_is l others))

pub all_blank : (m : ℕ) → list_all is_space (replicate m 32) ≡ true
all_blank zero = refl
all_blank (suc m) = all_blank m

pub past_digits : (ds : List ℕ) (m : ℕ) → AllDigits 10 ds → prefix_len no_blank (ds ++ replicate m 32) ≡ length ds
past_digits [] zero h = refl
past_digits [] (suc m) h = refl
past_digits (d ∷ ds) m h =
    let digit = digit_from_value d h.0 in
    let other : no_blank d ≡ true = search (rules, digit) in
    rw (other, past_digits ds m h.1) (omega arith)

pub left_read : (bs : List ℕ) (k n : ℕ) → k ≤ length bs → list_all is_space (take (length bs - k) (drop k bs)) ≡ true
    → take k bs ≡ decimal n → bs ≡ to_left (length bs) (decimal n)
left_read bs k n fits blank digits =
    let P : List ℕ → Type 0 = λ l. list_all is_space l ≡ true in
    let after : drop k bs ≡ replicate (length (drop k bs)) 32 = blank_is (drop k bs) (subst P (rest_of bs k) blank) in
    let long : length (decimal n) ≡ k = ap length (sym digits) ∙ length-take-le k bs fits in
    let rest : length (drop k bs) ≡ length bs - length (decimal n) = length-drop k bs ∙ ap (λ m. length bs - m) (sym long) in
    sym (take-append-drop k bs) ∙ ap (λ l. l ++ drop k bs) digits ∙ ap (λ l. decimal n ++ l) (after ∙ ap (λ m. replicate m 32) rest)

-- what is found in a number with m spaces after it
pub left_found : (bs : List ℕ) (k m n : ℕ) → n < 2 ^ 64 → k ≡ prefix_len no_blank bs → bs ≡ decimal n ++ replicate m 32
    → (take k bs ≡ decimal n) × (list_all is_space (take (length bs - k) (drop k bs)) ≡ true)
left_found bs k m n small count e =
    let ds = decimal n in
    let all : List ℕ = ds ++ replicate m 32 in
    let long : k ≡ length ds = count ∙ ap (prefix_len no_blank) e ∙ past_digits ds m (digits_decimal own n small) in
    let front : take k bs ≡ ds = ap (λ l. take k l) e ∙ ap (λ j. take j all) long ∙ take-append_seam ds (replicate m 32) in
    let back : drop k bs ≡ replicate m 32 = ap (λ l. drop k l) e ∙ ap (λ j. drop j all) long ∙ drop-append_seam ds (replicate m 32) in
    (front, ap (list_all is_space) (rest_of bs k ∙ back) ∙ all_blank m)

pub column_read_left : (r : Option ℕ) (bs : List ℕ) (k : ℕ) → k ≤ length bs
    → list_all is_space (take (length bs - k) (drop k bs)) ≡ true
    → IfSome r (λ n. (take k bs ≡ decimal n) × (n < 2 ^ 64))
    → IfSome r (λ n. (bs ≡ to_left (length bs) (decimal n)) × (n < 2 ^ 64))
column_read_left None bs k fits blank h = tt
column_read_left (Some n) bs k fits blank h = (left_read bs k n fits blank h.0, h.1)
