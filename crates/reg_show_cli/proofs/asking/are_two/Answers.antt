use Rattle.std.proofs.Common.{◌≡◌, ◌∙◌, length, map, refl, string_bytes, sym}
use Rattle.std.proofs.lemmas.Bool.{false≢true}
use Rattle.std.proofs.lemmas.List.{length-map}
use Rattle.reg_show_cli.proofs.Counted.{first_word, second_word, two_length, two_words}
use Rattle.reg_show_cli.proofs.asking.are_two.Goals as goal

pub returns-then-words-ne3 : goal.returns-then-words-ne3
returns-then-words-ne3 c =
    let ws = map string_bytes c.args.words.now in
    (λ e. absurd (false≢true e), λ h. absurd (c.if-words-ne3.true (sym (length-map c.args.words.now string_bytes) ∙ two_length ws c.args.first.now c.args.second.now h)))

pub returns-then-not-is_at : goal.returns-then-not-is_at
returns-then-not-is_at c =
    let ws = map string_bytes c.args.words.now in
    (λ e. absurd (false≢true e), λ h. absurd (false≢true (c.if-not-is_at.ensures.1 (first_word ws c.args.first.now c.args.second.now h))))

pub returns : goal.returns
returns c =
    let ws = map string_bytes c.args.words.now in
    let n : length ws ≡ 3 = length-map c.args.words.now string_bytes ∙ c.if-words-ne3.false in
    (λ e. two_words ws c.args.first.now c.args.second.now n (c.if-not-is_at.ensures.0 refl) (c.is_at-2.ensures.0 e), λ h. c.is_at-2.ensures.1 (second_word ws c.args.first.now c.args.second.now h))
