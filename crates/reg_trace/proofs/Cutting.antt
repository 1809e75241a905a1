-- A text cut at its first line feed, and what a comment says.
use Rattle.std.proofs.Common.{ℕ, suc, ◌≡◌, ◌≢◌, ◌+◌, ◌<◌, ◌==◌, not, Bool, true, false, cond, List, [], ◌∷◌, length}
use Rattle.std.proofs.Common.{take, drop, refl, sym, ap, ap₂, ◌∙◌, arith, Option, None, Some, MatchOption, Bor}
use Rattle.std.proofs.Common.{unwrap_or}
use Rattle.std.specs.List.{position_or_len, before_first, after_first}
use Rattle.std.proofs.lemmas.Bool.Decides.{nat_tests}
use Rattle.reg_text.specs.Lines.{lines_of}
use Rattle.reg_text.specs.Parts.{Lacks}
use Rattle.reg_text.proofs.Split.{last_is}
use Rattle.reg_trace.specs.Notes.{comment_of, past_space}

abbrev feeds : ℕ → Bool
feeds b = b == 10

cut_more : (b : ℕ) (bs : List ℕ) (t : Bool) → (b == 10) ≡ t → position_or_len feeds (b ∷ bs) < length (b ∷ bs)
    → (position_or_len feeds bs < length bs → lines_of bs ≡ before_first feeds bs ∷ lines_of (after_first feeds bs))
    → lines_of (b ∷ bs) ≡ before_first feeds (b ∷ bs) ∷ lines_of (after_first feeds (b ∷ bs))
unfolding lines_of
cut_more b bs true e l more = rw e refl
cut_more b bs false e l more =
    let on : cond (not (b == 10)) (1 + position_or_len feeds bs) 0 ≡ 1 + position_or_len feeds bs = rw e refl in
    let within : position_or_len feeds bs < length bs = omega (arith, on, l) in
    let k : 1 + position_or_len feeds bs ≡ suc (position_or_len feeds bs) = omega arith in
    let n : 1 + position_or_len feeds bs + 1 ≡ suc (position_or_len feeds bs + 1) = omega arith in
    rw (e, more within) (ap₂ (λ i j. take i (b ∷ bs) ∷ lines_of (drop j (b ∷ bs))) (sym k) (sym n))

-- the line before the first line feed, and the rest after it
pub cut_first : (bs : List ℕ) → position_or_len feeds bs < length bs
    → lines_of bs ≡ before_first feeds bs ∷ lines_of (after_first feeds bs)
cut_first [] l = absurd (omega (arith, l))
cut_first (b ∷ bs) l = cut_more b bs (b == 10) refl l (cut_first bs)

-- the same of the two parts
pub cut_parts : (bs : List ℕ) (line rest : Bor (List ℕ))
    → (position_or_len feeds bs < length bs) × (line.now ≡ before_first feeds bs) × (rest.now ≡ after_first feeds bs)
    → lines_of bs ≡ line.now ∷ lines_of rest.now
cut_parts bs line rest h = cut_first bs h.0 ∙ ap₂ (λ l r. l ∷ lines_of r) (sym h.1) (sym h.2)

none_more : (b : ℕ) (bs : List ℕ) (t : Bool) → (b == 10) ≡ t → position_or_len feeds (b ∷ bs) ≡ length (b ∷ bs)
    → (position_or_len feeds bs ≡ length bs → Lacks 10 bs) → Lacks 10 (b ∷ bs)
none_more b bs true e h more =
    let at : cond (not (b == 10)) (1 + position_or_len feeds bs) 0 ≡ 0 = rw e refl in absurd (omega (arith, at, h))
none_more b bs false e h more =
    let on : cond (not (b == 10)) (1 + position_or_len feeds bs) 0 ≡ 1 + position_or_len feeds bs = rw e refl in
    rw e (more (omega (arith, on, h)))

lacks : (bs : List ℕ) → position_or_len feeds bs ≡ length bs → Lacks 10 bs
lacks [] h = refl
lacks (b ∷ bs) h = none_more b bs (b == 10) refl h (lacks bs)

-- a text with none is a line
pub cut_none : (bs : List ℕ) → (length bs == 0) ≡ false → position_or_len feeds bs ≡ length bs → lines_of bs ≡ bs ∷ []
cut_none bs e l = last_is bs e (lacks bs l)

abbrev Strips : ℕ → List ℕ → Option (Bor (List ℕ)) → Type 0
Strips c bs r = MatchOption r ((rest : List ℕ) → bs ≢ c ∷ rest) (λ x. bs ≡ c ∷ x.now)

-- the words of a comment without the space before them
pub words_of : (words : Bor (List ℕ)) (r : Option (Bor (List ℕ))) → Strips 32 words.now r
    → (unwrap_or r words).now ≡ past_space words.now
words_of words None h = all words.now h
  where
    all : (bs : List ℕ) → ((rest : List ℕ) → bs ≢ 32 ∷ rest) → bs ≡ past_space bs
    all [] h = refl
    all (b ∷ bs) h = go (b == 32) refl
      where
        go : (t : Bool) → (b == 32) ≡ t → b ∷ bs ≡ past_space (b ∷ bs)
        go true e = absurd (h bs (ap (λ n. n ∷ bs) (grind (arith, nat_tests))))
        go false e = rw e refl
words_of words (Some x) h = sym (ap past_space h)

-- a comment, or another line
pub comment_is : (bs words : List ℕ) → bs ≡ 35 ∷ words → comment_of bs ≡ past_space words
comment_is bs words e = ap comment_of e

pub no_comment : (bs : List ℕ) → ((rest : List ℕ) → bs ≢ 35 ∷ rest) → [] ≡ comment_of bs
no_comment [] h = refl
no_comment (b ∷ bs) h = go (b == 35) refl
  where
    go : (t : Bool) → (b == 35) ≡ t → [] ≡ comment_of (b ∷ bs)
    go true e = absurd (h bs (ap (λ n. n ∷ bs) (grind (arith, nat_tests))))
    go false e = rw e refl
