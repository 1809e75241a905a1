-- The spaces in front of a number, and the rest.
use Rattle.std.proofs.Common.{ℕ, zero, suc, ◌≡◌, ◌+◌, ◌-◌, ◌<◌, ◌^◌, ◌==◌, Bool, true, false, cond, List, [], ◌∷◌, ◌++◌}
use Rattle.std.proofs.Common.{length, take, drop, replicate, get_or, refl, sym, ap, subst, ◌∙◌, arith, rules, inl, inr}
use Rattle.std.proofs.Common.{Option, None, Some, IfSome}
use Rattle.std.specs.List.{prefix_len}
use Rattle.std.specs.Fmt.{decimal}
use Rattle.reg_text.specs.Columns.{to_right}
use Rattle.std.proofs.lemmas.List.{length-append, length-replicate}
use Rattle.reg_text.proofs.Decimals.{plain_decimal, first_is}
use Rattle.reg_text.proofs.Parts.{rest_of}

abbrev pub is_space : ℕ → Bool
is_space b = b == 32

by_test : (b : ℕ) (bs : List ℕ) (k : ℕ) (t : Bool) → is_space b ≡ t → bs ≡ replicate k 32 ++ drop k bs
    → b ∷ bs ≡ replicate (cond t (1 + k) 0) 32 ++ drop (cond t (1 + k) 0) (b ∷ bs)
by_test b bs k true h ih = let more : 1 + k ≡ suc k = omega arith in let same : b ≡ 32 = search (rules, h) in rw (more, same) (ap (λ l. 32 ∷ l) ih)
by_test b bs k false h ih = refl

pub split_spaces : (bs : List ℕ) → bs ≡ replicate (prefix_len is_space bs) 32 ++ drop (prefix_len is_space bs) bs
split_spaces [] = refl
split_spaces (b ∷ bs) = by_test b bs (prefix_len is_space bs) (is_space b) refl (split_spaces bs)

pub past_spaces : (m : ℕ) (ds : List ℕ) → 0 < length ds → is_space (get_or ds 0 0) ≡ false
    → drop (prefix_len is_space (replicate m 32 ++ ds)) (replicate m 32 ++ ds) ≡ ds
past_spaces zero [] some plain = absurd (omega (arith, some))
past_spaces zero (d ∷ ds) some plain = rw plain refl
past_spaces (suc m) ds some plain =
    let rest = replicate m 32 ++ ds in
    let more : 1 + prefix_len is_space rest ≡ suc (prefix_len is_space rest) = omega arith in
    rw more (past_spaces m ds some plain)

pub right_read : (bs : List ℕ) (k n : ℕ) → k ≡ prefix_len is_space bs → drop k bs ≡ decimal n
    → bs ≡ to_right (length bs) (decimal n)
right_read bs k n spaces digits =
    let cut : bs ≡ replicate k 32 ++ drop k bs = rw spaces (split_spaces bs) in
    let whole : bs ≡ replicate k 32 ++ decimal n = cut ∙ ap (λ l. replicate k 32 ++ l) digits in
    let sum : length bs ≡ length (replicate k 32) + length (decimal n) = ap length whole ∙ length-append (replicate k 32) (decimal n) in
    let same : k ≡ length bs - length (decimal n) = omega (arith, sum, length-replicate {A = ℕ} k 32) in
    whole ∙ ap (λ m. replicate m 32 ++ decimal n) same

no_space : (n : ℕ) → n < 2 ^ 64 → is_space (get_or (decimal n) 0 0) ≡ false
no_space n small = elim (first_is n small) [
  | inl d ↦ let P : List ℕ → Type 0 = λ l. is_space (get_or l 0 0) ≡ false in subst P (sym d) refl
  | inr more ↦ search (rules, more)
]

pub right_whole : (bs : List ℕ) (k n : ℕ) → n < 2 ^ 64 → k ≡ prefix_len is_space bs
    → bs ≡ to_right (length bs) (decimal n) → drop k bs ≡ decimal n
right_whole bs k n small spaces e =
    let P : List ℕ → Type 0 = λ l. drop (prefix_len is_space l) l ≡ decimal n in
    rw spaces (subst P (sym e) (past_spaces (length bs - length (decimal n)) (decimal n) (plain_decimal n small).0 (no_space n small)))

pub column_read : (r : Option ℕ) (bs : List ℕ) (k : ℕ) → k ≡ prefix_len is_space bs
    → IfSome r (λ n. (take (length bs - k) (drop k bs) ≡ decimal n) × (n < 2 ^ 64))
    → IfSome r (λ n. (bs ≡ to_right (length bs) (decimal n)) × (n < 2 ^ 64))
column_read None bs k spaces h = tt
column_read (Some n) bs k spaces h = (right_read bs k n spaces (sym (rest_of bs k) ∙ h.0), h.1)
