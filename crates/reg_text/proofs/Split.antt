-- The lines of a text, and the text of lines.
use Rattle.std.proofs.Common.{ℕ, suc, ◌≡◌, ◌==◌, not, ◌⊎◌, inl, inr, true, false, cond, List, [], ◌∷◌, ◌++◌, length}
use Rattle.std.proofs.Common.{refl, sym, ap, subst, ◌∙◌, arith, rules, append_assoc}
use Rattle.std.specs.List.{list_all}
use Rattle.reg_text.specs.Parts.{Lacks}
use Rattle.reg_text.specs.Lines.{begins_with, lines_of, text_of, kept, is_kept}
use Rattle.reg_text.proofs.NamesLack.{both_true}

at_byte : (b : ℕ) → not (b == 10) ≡ true → (b == 10) ≡ false
at_byte b h = elim (b == 10) as (λ t. not t ≡ true → t ≡ false) [ true ↦ λ e. absurd (cc) | false ↦ λ e. refl ] h

pub line_first : (line rest : List ℕ) → Lacks 10 line → lines_of (line ++ 10 ∷ rest) ≡ line ∷ lines_of rest
unfolding lines_of
line_first [] rest h = refl
line_first (b ∷ line) rest h =
    let both = both_true (not (b == 10)) (list_all (λ c. not (c == 10)) line) h in
    rw (at_byte b both.0, line_first line rest both.1) refl

pub line_last : (b : ℕ) (line : List ℕ) → Lacks 10 (b ∷ line) → lines_of (b ∷ line) ≡ (b ∷ line) ∷ []
unfolding lines_of
line_last b [] h =
    let both = both_true (not (b == 10)) true h in
    rw (at_byte b both.0) refl
line_last b (d ∷ line) h =
    let both = both_true (not (b == 10)) (list_all (λ c. not (c == 10)) (d ∷ line)) h in
    rw (at_byte b both.0) (ap (begins_with b) (line_last d line both.1))

pub none_left : lines_of [] ≡ []
unfolding lines_of
none_left = refl

abbrev pub AllLack : List (List ℕ) → Type 0
AllLack [] = Unit {0}
AllLack (line ∷ lines) = Lacks 10 line × AllLack lines

pub lines_text : (lines : List (List ℕ)) (t : List ℕ) → AllLack lines
    → lines_of (text_of lines ++ t) ≡ lines ++ lines_of t
lines_text [] t h = refl
lines_text (line ∷ lines) t h =
    let shape : (line ++ 10 ∷ []) ++ text_of lines ++ t ≡ line ++ 10 ∷ (text_of lines ++ t) = append_assoc (line ++ 10 ∷ []) (text_of lines) t ∙ append_assoc line (10 ∷ []) (text_of lines ++ t) in
    ap lines_of shape ∙ line_first line (text_of lines ++ t) h.0 ∙ ap (λ l. line ∷ l) (lines_text lines t h.1)

abbrev pub IsTextOf : List ℕ → List (List ℕ) → Type 0
IsTextOf bytes lines = (bytes ≡ text_of lines) ⊎ (bytes ++ 10 ∷ [] ≡ text_of lines)

ends : (b : ℕ) (bs : List ℕ) (ls : List (List ℕ)) → IsTextOf bs ls → IsTextOf (b ∷ bs) (begins_with b ls)
ends b bs [] (inl e) = inr (ap (λ l. b ∷ (l ++ 10 ∷ [])) e)
ends b [] [] (inr e) = absurd (cc)
ends b (d ∷ bs) [] (inr e) = absurd (cc)
ends b bs (l ∷ ls) (inl e) = inl (ap (λ x. b ∷ x) e)
ends b bs (l ∷ ls) (inr e) = inr (ap (λ x. b ∷ x) e)

fed : (bs : List ℕ) (ls : List (List ℕ)) → IsTextOf bs ls → IsTextOf (10 ∷ bs) ([] ∷ ls)
fed bs ls (inl e) = inl (ap (λ x. 10 ∷ x) e)
fed bs ls (inr e) = inr (ap (λ x. 10 ∷ x) e)

-- each text is that of its lines, but for its last line feed
pub text_lines : (bs : List ℕ) → IsTextOf bs (lines_of bs)
unfolding lines_of
text_lines [] = inl refl
text_lines (b ∷ bs) =
    elim (b == 10) as (λ t. (b == 10) ≡ t → IsTextOf (b ∷ bs) (cond t ([] ∷ lines_of bs) (begins_with b (lines_of bs)))) [
      | true ↦ λ e. let same : b ≡ 10 = search (rules, e) in let P : ℕ → Type 0 = λ x. IsTextOf (x ∷ bs) ([] ∷ lines_of bs) in subst P (sym same) (fed bs (lines_of bs) (text_lines bs))
      | false ↦ λ e. ends b bs (lines_of bs) (text_lines bs)
    ] refl

pub empty_is : (l : List ℕ) → (length l == 0) ≡ true → l ≡ []
empty_is [] h = refl
empty_is (b ∷ l) h = let e : suc (length l) ≡ 0 = search (rules, h) in absurd (omega (arith, e))

pub last_is : (l : List ℕ) → (length l == 0) ≡ false → Lacks 10 l → lines_of l ≡ l ∷ []
last_is [] e h = absurd (cc)
last_is (b ∷ l) e h = line_last b l h

pub kept_line : (line : List ℕ) (lines : List (List ℕ)) → is_kept line ≡ true → kept (line ∷ lines) ≡ line ∷ kept lines
unfolding kept
kept_line line lines h = rw h refl

pub skipped_line : (line : List ℕ) (lines : List (List ℕ)) → is_kept line ≡ false → kept (line ∷ lines) ≡ kept lines
unfolding kept
skipped_line line lines h = rw h refl

pub none_kept : kept [] ≡ []
unfolding kept
none_kept = refl
