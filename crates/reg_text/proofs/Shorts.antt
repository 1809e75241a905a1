-- Numerals of few digits.
use Rattle.std.proofs.Common.{◌++◌, ◌==◌, not, true, drop, refl, slice_index_or, ℕ, ◌≡◌, ◌+◌, ◌-◌, ◌*◌, ◌<◌, ◌≤◌, ◌^◌}
use Rattle.std.proofs.Common.{List, [], ◌∷◌, length, take, get_or, sym, ap, ◌∙◌, subst, arith, rules}
use borrow.Author.Count.{below_more}
use Rattle.std.proofs.lemmas.List.{length-take-le, get_or-take, take_all}
use Rattle.std.specs.Fmt.{decimal}
use Rattle.std.specs.Int.{IsInRange}
use Rattle.std.specs.Char.{digit_value}
use Rattle.std.specs.Str.Parse.{digits_value}
use Rattle.std.proofs.lemmas.Fmt.{digits_decimal, digits_value-decimal, decimal-digits_value, decimal_digit}
use Rattle.std.proofs.lemmas.Int.Digits.{digits_value_more}
use Rattle.std.proofs.lemmas.Str.Parse.{IsNumeralModel, numerals_by_value, tells_by_index, digits_value_short}
use Rattle.reg_text.specs.Plain.{IsPlain}
use Rattle.reg_text.specs.Parts.{Lacks}
use Rattle.reg_text.proofs.NamesLack.{both_true}
use Rattle.std.specs.List.{list_all}

abbrev pub AreDigits : List ℕ → Type 0
AreDigits ds = (i : ℕ) → i < length ds → IsInRange 48 57 (get_or ds i 0)

by_place : IsNumeralModel AreDigits (digits_value 10)
by_place = numerals_by_value AreDigits tells_by_index

taken : (bs : List ℕ) (i : ℕ) → i ≤ length bs → ((k : ℕ) → k < i → IsInRange 48 57 (get_or bs k 0))
    → AreDigits (take i bs)
taken bs i l h = λ k w.
    let long : length (take i bs) ≡ i = length-take-le i bs l in
    let within : k < i = omega (arith, w, long) in
    let P : ℕ → Type 0 = λ b. IsInRange 48 57 b in
    subst P (sym (get_or-take i bs k 0 within)) (h k within)

digit_is : (c : ℕ) → IsInRange 48 57 c → digit_value c ≡ c - 48
digit_is c h = search (rules, h)

-- one more digit
pub next_value : (bs : List ℕ) (i v : ℕ) → i < length bs → length bs ≤ 19 → v ≡ digits_value 10 (take i bs)
    → ((k : ℕ) → k < i → IsInRange 48 57 (get_or bs k 0)) → IsInRange 48 57 (get_or bs i 0)
    → (v * 10 + (get_or bs i 0 - 48) ≡ digits_value 10 (take (i + 1) bs)) × (v * 10 + (get_or bs i 0 - 48) < 2 ^ 64)
next_value bs i v l short e h here =
    let step : v * 10 + (get_or bs i 0 - 48) ≡ digits_value 10 (take (i + 1) bs) =
    ap (λ x. x * 10 + (get_or bs i 0 - 48)) e ∙ ap (λ d. digits_value 10 (take i bs) * 10 + d) (sym (digit_is (get_or bs i 0) here)) ∙ sym (digits_value_more 10 bs i l) in
    let few : length (take (i + 1) bs) ≤ 19 = omega (arith, length-take-le (i + 1) bs (omega arith)) in
    let small : digits_value 10 (take (i + 1) bs) < 10 ^ 19 = digits_value_short by_place (take (i + 1) bs) 19 (taken bs (i + 1) (omega arith) (below_more (λ k. IsInRange 48 57 (get_or bs k 0)) i h here)) few in
    (step, omega (arith, step, small))

pub all_read : (bs : List ℕ) (i v : ℕ) → IsPlain bs → length bs ≤ 19 → i ≡ length bs → v ≡ digits_value 10 (take i bs)
    → ((k : ℕ) → k < i → IsInRange 48 57 (get_or bs k 0))
    → (bs ≡ decimal v) × (v < 2 ^ 64)
all_read bs i v plain short e same h =
    let whole : take i bs ≡ bs = take_all i bs (omega (arith, e)) in
    let value : v ≡ digits_value 10 bs = same ∙ ap (digits_value 10) whole in
    let digits : AreDigits bs = λ k w. h k (omega (arith, w, e)) in
    let small : digits_value 10 bs < 10 ^ 19 = digits_value_short by_place bs 19 digits short in
    let fits : digits_value 10 bs < 2 ^ 64 = omega (arith, small) in
    let back : decimal (digits_value 10 bs) ≡ bs = decimal-digits_value by_place bs digits plain.0 plain.2 fits in
    (sym back ∙ ap decimal (sym value), omega (arith, value, fits))

pub one_number : (bs : List ℕ) (v n : ℕ) → (bs ≡ decimal v) × (v < 2 ^ 64) → n < 2 ^ 64 → bs ≡ decimal n → v ≡ n
one_number bs v n h small e = sym (digits_value-decimal by_place v h.1) ∙ ap (digits_value 10) (sym h.0 ∙ e) ∙ digits_value-decimal by_place n small

pub digit_there : (bs : List ℕ) (i n : ℕ) → i < length bs → n < 2 ^ 64 → bs ≡ decimal n
    → IsInRange 48 57 (get_or bs i 0)
digit_there bs i n l small e =
    let P : List ℕ → Type 0 = AreDigits in
    subst P (sym e) (digits_decimal by_place n small) i l

pub digit_read : (b : ℕ) → IsInRange 48 57 b → (b ∷ [] ≡ decimal (b - 48)) × (b - 48 < 2 ^ 64)
digit_read b h =
    let low : 48 ≤ b = search (rules, h) in
    let high : b ≤ 57 = search (rules, h) in
    let same : b ≡ 48 + (b - 48) = omega (arith, low) in
    (ap (λ d. d ∷ []) same ∙ sym (decimal_digit (b - 48) (omega (arith, high))), omega (arith, high))

pub one_digit : (b n : ℕ) → n < 2 ^ 64 → b ∷ [] ≡ decimal n → IsInRange 48 57 b × (b - 48 ≡ n)
one_digit b n small e =
    let here : IsInRange 48 57 b = digit_there (b ∷ []) 0 n (omega arith) small e in
    (here, one_number (b ∷ []) (b - 48) n (digit_read b here) small e)

abbrev pub OneBefore : List ℕ → List ℕ → List ℕ → Type 0
OneBefore bs ds rest = (slice_index_or bs 0 0 ∷ [] ≡ ds) × (drop 2 bs ≡ rest)

one_of : (m : ℕ) (ds rest : List ℕ) → 0 < length ds → Lacks m ds → slice_index_or (ds ++ m ∷ rest) 1 0 ≡ m
    → OneBefore (ds ++ m ∷ rest) ds rest
one_of m [] rest some h e = absurd (omega (arith, some))
one_of m (d ∷ []) rest some h e = (refl, refl)
one_of m (d ∷ f ∷ ds) rest some h e =
    let both = both_true (not (d == m)) (list_all (λ c. not (c == m)) (f ∷ ds)) h in
    let more = both_true (not (f == m)) (list_all (λ c. not (c == m)) ds) both.1 in
    let here : f ≡ m = e in
    let other : not (f == m) ≡ true = more.0 in
    let wrong : ⊥ = search (rules, here, other) in
    absurd wrong

-- a mark at the second place: what lacks it in front is one byte
pub one_before : (m : ℕ) (bs ds rest : List ℕ) → 0 < length ds → Lacks m ds → slice_index_or bs 1 0 ≡ m
    → bs ≡ ds ++ m ∷ rest → OneBefore bs ds rest
one_before m bs ds rest some h e same =
    let P : List ℕ → Type 0 = λ l. slice_index_or l 1 0 ≡ m → OneBefore l ds rest in
    subst P (sym same) (one_of m ds rest some h) e
