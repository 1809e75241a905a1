use Rattle.std.proofs.Common.{ℕ, ◌≡◌, ◌-◌, List, ◌∷◌, ◌++◌, length, take, drop, ap, sym, inr, ◌∙◌}
use Rattle.std.proofs.Math.Seq.{drop-append_seam}
use Rattle.reg_text.proofs.Parts.{rest_of}
use Rattle.reg_text.proofs.Worded.{cut_word}
use Rattle.reg_text.proofs.words.next_word.Goals as goal

behind : (bs front after : List ℕ) → bs ≡ front ++ after
    → take (length bs - length front) (drop (length front) bs) ≡ after
behind bs front after e = rest_of bs (length front) ∙ ap (drop (length front)) e ∙ drop-append_seam front after

pub returns-in-Some-clause-read : goal.returns-in-Some-clause-read
returns-in-Some-clause-read c =
    let split = c.in-Some.ensures.read.0 in
    let after = behind c.in_ok-rest.rest.now c.in-Some.word.now (32 ∷ c.in-Some.field-0-1.now) split in
    c.in_ok-rest.ensures.read ∙ ap (λ l. 32 ∷ l) (split ∙ ap (λ l. c.in-Some.word.now ++ l) (sym after))

pub returns-in-Some-clause-word : goal.returns-in-Some-clause-word
returns-in-Some-clause-word c =
    let split = c.in-Some.ensures.read in
    (split.1, inr (c.in-Some.field-0-1.now, behind c.in_ok-rest.rest.now c.in-Some.word.now (32 ∷ c.in-Some.field-0-1.now) split.0))

pub returns-in-Some-clause-whole : goal.returns-in-Some-clause-whole
returns-in-Some-clause-whole c = λ word after lacks starts e.
    let rest = c.in_ok-rest.ensures.whole (word ++ after) e in
    let same = cut_word c.in_ok-rest.rest.now c.in-Some.word.now c.in-Some.field-0-1.now word after c.in-Some.ensures.read c.in-Some.ensures.whole lacks starts rest in
    (same, behind c.in_ok-rest.rest.now c.in-Some.word.now after (rest ∙ ap (λ l. l ++ after) (sym same)))
