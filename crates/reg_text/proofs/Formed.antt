-- Words, numerals and operations by their form alone.
use Rattle.std.proofs.Common.{ℕ, zero, suc, ◌≡◌, ◌-◌, ◌<◌, ◌^◌, ◌==◌, not, true, false, cond, List, [], ◌∷◌, ◌++◌}
use Rattle.std.proofs.Common.{length, replicate, get_or, refl, ap, ◌∙◌, arith, rules, inl, inr, append-nil}
use Rattle.std.proofs.Common.{length-append}
use Rattle.std.specs.Char.{is_ascii, is_ascii_digit}
use Rattle.std.specs.List.{list_all}
use Rattle.std.specs.Fmt.{decimal}
use Rattle.std.specs.Str.Parse.{AllDigits}
use Rattle.std.proofs.lemmas.Str.Parse.{digit_from_value}
use Rattle.std.proofs.lemmas.Fmt.{digits_decimal}
use Rattle.reg_text.specs.Columns.{to_left}
use Rattle.reg_text.specs.Parts.{Lacks}
use Rattle.reg_text.specs.Forms.{is_numeral, is_word, is_word_byte}
use Rattle.reg_text.specs.Reading.{IsValuedForm, IsComparedForm}
use Rattle.reg_text.proofs.Decimals.{own, first_is}
use Rattle.reg_text.proofs.Digits.{blank_is, all_blank}
use Rattle.reg_text.proofs.NamesLack.{both_true}
use Rattle.reg_text.proofs.Spaces.{is_space}
use Rattle.reg_text.proofs.Split.{empty_is}

bytes_lack : (bs : List ℕ) → list_all is_word_byte bs ≡ true → Lacks 32 bs
bytes_lack [] h = refl
bytes_lack (b ∷ bs) h =
    let both = both_true (is_word_byte b) (list_all is_word_byte bs) h in
    let other = both_true (is_ascii b) (not (b == 32)) both.0 in
    rw (other.1) (bytes_lack bs both.1)

-- a word has no spaces
pub word_lacks : (w : List ℕ) → is_word w ≡ true → Lacks 32 w
word_lacks w h = bytes_lack w (both_true (not (length w == 0)) (list_all is_word_byte w) h).1

digits_lack : (m : ℕ) (bs : List ℕ) → m < 48 → list_all is_ascii_digit bs ≡ true → Lacks m bs
digits_lack m [] low h = refl
digits_lack m (b ∷ bs) low h =
    let both = both_true (is_ascii_digit b) (list_all is_ascii_digit bs) h in
    let other : not (b == m) ≡ true = search (rules, low, both.0) in
    rw other (digits_lack m bs low both.1)

-- a numeral has no signs below its digits
pub numeral_lacks : (m : ℕ) (bs : List ℕ) → m < 48 → is_numeral bs ≡ true → Lacks m bs
numeral_lacks m [] low h = refl
numeral_lacks m (b ∷ bs) low h =
    elim (b == 48) as (λ t. (b == 48) ≡ t → cond t (length bs == 0) (list_all is_ascii_digit (b ∷ bs)) ≡ true → Lacks m (b ∷ bs)) [
      | true ↦ λ e g.
          let same : b ≡ 48 = search (rules, e) in
          let none : bs ≡ [] = empty_is bs g in
          let other : not (b == m) ≡ true = search (rules, same, low) in
          rw (other, none) refl
      | false ↦ λ e g. digits_lack m (b ∷ bs) low g
    ] refl h

all_digits : (ds : List ℕ) → AllDigits 10 ds → list_all is_ascii_digit ds ≡ true
all_digits [] h = refl
all_digits (d ∷ ds) h =
    let digit = digit_from_value d h.0 in
    let first : is_ascii_digit d ≡ true = search (rules, digit) in
    rw first (all_digits ds h.1)

no_zero : (ds : List ℕ) → 48 < get_or ds 0 0 → AllDigits 10 ds → is_numeral ds ≡ true
no_zero [] more h = absurd (omega (arith, more))
no_zero (d ∷ ds) more h =
    let other : (d == 48) ≡ false = search (rules, more) in
    rw other (all_digits (d ∷ ds) h)

-- what is written of a number is a numeral
pub number_form : (bs : List ℕ) (n : ℕ) → n < 2 ^ 64 → bs ≡ decimal n → is_numeral bs ≡ true
number_form bs n small e =
    ap is_numeral e ∙ elim (first_is n small) as (λ _. is_numeral (decimal n) ≡ true) [
      | inl d ↦ ap is_numeral d
      | inr more ↦ no_zero (decimal n) more (digits_decimal own n small)
    ]

-- a text before spaces
pub padded : (bs front after : List ℕ) → bs ≡ front ++ 32 ∷ after → list_all is_space after ≡ true
    → bs ≡ to_left (length bs) front
padded bs front after e blank =
    let spaces : 32 ∷ after ≡ replicate (suc (length after)) 32 = ap (λ l. 32 ∷ l) (blank_is after blank) in
    let count : suc (length after) ≡ length bs - length front = omega (arith, ap length e, length-append front (32 ∷ after)) in
    e ∙ ap (λ l. front ++ l) (spaces ∙ ap (λ m. replicate m 32) count)

-- where other bytes follow the first space, no spaces stand at the end of a text without them
pub unpadded : (bs front a after : List ℕ) (m : ℕ)
    → ((f r : List ℕ) → Lacks 32 f → bs ≡ f ++ 32 ∷ r → (a ≡ f) × (after ≡ r)) → list_all is_space after ≡ false
    → Lacks 32 front → bs ≡ front ++ replicate m 32 → bs ≡ front
unpadded bs front a after zero cut other lacks e = e ∙ append-nil front
unpadded bs front a after (suc m) cut other lacks e =
    let both = cut front (replicate m 32) lacks e in
    let blank = ap (list_all is_space) both.1 ∙ all_blank m in
    absurd (cc)

-- the parts of a name and a value
pub valued_parts : (text name digits w d : List ℕ)
    → ((f r : List ℕ) → Lacks 32 f → text ≡ f ++ 32 ∷ r → (name ≡ f) × (digits ≡ r)) → IsValuedForm text w d
    → (name ≡ w) × (digits ≡ d)
valued_parts text name digits w d cut h = cut w d (word_lacks w h.0) h.2

-- a text that is cut at the first such byte
abbrev pub IsCutAt : List ℕ → List ℕ → List ℕ → Type 0
IsCutAt text before after = (f r : List ℕ) → Lacks 32 f → text ≡ f ++ 32 ∷ r → (before ≡ f) × (after ≡ r)

-- the parts of a name and two values
pub compared_parts : (text name values expected digits w x d : List ℕ) → IsCutAt text name values
    → IsCutAt values expected digits → IsComparedForm text w x d → (name ≡ w) × (expected ≡ x) × (digits ≡ d)
compared_parts text name values expected digits w x d cut again h =
    let both = cut w (x ++ 32 ∷ d) (word_lacks w h.0) h.3 in
    let two = again x d (numeral_lacks 32 x (omega arith) h.1) both.1 in
    (both.0, two.0, two.1)

pub no_truth : {A : Type 0} → false ≡ true → A
no_truth e = absurd (cc)

-- texts that are equal begin with the same byte
pub first_same : {a b : ℕ} {xs ys : List ℕ} → a ∷ xs ≡ b ∷ ys → a ≡ b
first_same e = ap (λ l. get_or l 0 0) e
