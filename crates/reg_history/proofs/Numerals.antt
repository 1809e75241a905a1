-- Numerals in columns.
use Rattle.std.proofs.Common.{ℕ, ◌≡◌, ◌-◌, ◌<◌, ◌≤◌, ◌==◌, not, true, false, List, [], ◌∷◌, ◌++◌, length, take, drop}
use Rattle.std.proofs.Common.{replicate, get_or, sym, ap, subst, ◌∙◌, ◌⊎◌, inl, inr, append-nil, arith, rules}
use Rattle.std.specs.List.{prefix_len, list_all}
use Rattle.std.proofs.lemmas.List.{length-append, length-replicate, length-drop}
use Rattle.reg_text.specs.Columns.{to_right, to_left}
use Rattle.reg_text.specs.Forms.{is_numeral}
use Rattle.reg_text.specs.Parts.{Lacks}
use Rattle.reg_history.specs.LineForms.{FitsColumn}
use Rattle.reg_text.proofs.NamesLack.{both_true}
use Rattle.reg_text.proofs.Formed.{numeral_lacks}
use Rattle.reg_text.proofs.Spaces.{is_space, split_spaces, past_spaces}
use Rattle.reg_text.proofs.Parts.{rest_of}

pub behind_only : (bs : List ℕ) (k : ℕ) → k ≤ length bs → k ≡ prefix_len is_space bs
    → bs ≡ to_right (length bs) (take (length bs - k) (drop k bs))
behind_only bs k within spaces =
    let cut : bs ≡ replicate k 32 ++ drop k bs = rw spaces (split_spaces bs) in
    let same : k ≡ length bs - length (drop k bs) = omega (arith, within, length-drop k bs) in
    let whole : bs ≡ to_right (length bs) (drop k bs) = cut ∙ ap (λ m. replicate m 32 ++ drop k bs) same in
    let P : List ℕ → Type 0 = λ l. bs ≡ to_right (length bs) l in
    subst P (sym (rest_of bs k)) whole

some_digits : (ds : List ℕ) → is_numeral ds ≡ true → 0 < length ds
some_digits [] h = absurd (cc)
some_digits (d ∷ ds) h = omega arith

plain_first : (ds : List ℕ) → 0 < length ds → Lacks 32 ds → is_space (get_or ds 0 0) ≡ false
plain_first [] some lacks = absurd (omega (arith, some))
plain_first (d ∷ ds) some lacks =
    let other : not (d == 32) ≡ true = (both_true (not (d == 32)) (list_all (λ b. not (b == 32)) ds) lacks).0 in
    search (rules, other)

pub behind_whole : (bs digits : List ℕ) (k : ℕ) → k ≡ prefix_len is_space bs → is_numeral digits ≡ true
    → bs ≡ to_right (length bs) digits → take (length bs - k) (drop k bs) ≡ digits
behind_whole bs digits k spaces h e =
    let P : List ℕ → Type 0 = λ l. drop (prefix_len is_space l) l ≡ digits in
    let some = some_digits digits h in
    let plain = plain_first digits some (numeral_lacks 32 digits (omega arith) h) in
    let found : drop k bs ≡ digits = rw spaces (subst P (sym e) (past_spaces (length bs - length digits) digits some plain)) in
    rest_of bs k ∙ found

pub length_left : (places : ℕ) (ds : List ℕ) → length ds ≤ places → length (to_left places ds) ≡ places
length_left places ds short = omega (arith, short, length-append ds (replicate (places - length ds) 32), length-replicate {A = ℕ} (places - length ds) 32)

pub length_right : (places : ℕ) (ds : List ℕ) → length ds ≤ places → length (to_right places ds) ≡ places
length_right places ds short = omega (arith, short, length-append (replicate (places - length ds) 32) ds, length-replicate {A = ℕ} (places - length ds) 32)

-- a numeral at the right of a column that stands first
pub right_column : (places : ℕ) (bytes column after digits behind : List ℕ) → bytes ≡ column ++ after
    → length column ≡ places → is_numeral digits ≡ true → column ≡ to_right (length column) digits → after ≡ behind
    → FitsColumn places digits × (bytes ≡ to_right places digits ++ behind)
right_column places bytes column after digits behind cut long numeral is rest =
    let size : length column ≡ length (to_right (length column) digits) = ap length is in (
      record { numeral_is = numeral; short = omega (arith, size, long, length-append (replicate (length column - length digits) 32) digits, length-replicate {A = ℕ} (length column - length digits) 32) },
      cut ∙ ap (λ l. l ++ after) (is ∙ ap (λ m. to_right m digits) long) ∙ ap (λ l. to_right places digits ++ l) rest,
    )

-- a numeral that fills its column
full : (places : ℕ) (ds : List ℕ) → length ds ≡ places → to_left places ds ≡ ds
full places ds long =
    let none : places - length ds ≡ 0 = omega (arith, long) in ap (λ m. ds ++ replicate m 32) none ∙ append-nil ds

-- the same at the left of a column
pub left_column : (places : ℕ) (bytes column after digits behind : List ℕ) → bytes ≡ column ++ after
    → length column ≡ places → is_numeral digits ≡ true
    → (digits ≡ column) ⊎ (Lacks 32 digits × (column ≡ to_left (length column) digits)) → after ≡ behind
    → FitsColumn places digits × (bytes ≡ to_left places digits ++ behind)
left_column places bytes column after digits behind cut long numeral (inl all) rest =
    let size : length digits ≡ places = ap length all ∙ long in
    (record { numeral_is = numeral; short = omega (arith, size) }, cut ∙ ap (λ l. l ++ after) (sym all ∙ sym (full places digits size)) ∙ ap (λ l. to_left places digits ++ l) rest)
left_column places bytes column after digits behind cut long numeral (inr front) rest =
    let size : length column ≡ length (to_left (length column) digits) = ap length front.1 in (
      record { numeral_is = numeral; short = omega (arith, size, long, length-append digits (replicate (length column - length digits) 32), length-replicate {A = ℕ} (length column - length digits) 32) },
      cut ∙ ap (λ l. l ++ after) (front.1 ∙ ap (λ m. to_left m digits) long) ∙ ap (λ l. to_left places digits ++ l) rest,
    )
