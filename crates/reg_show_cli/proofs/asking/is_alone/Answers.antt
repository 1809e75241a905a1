use Rattle.std.proofs.Common.{◌≡◌, ◌∙◌, sym, length, map, string_bytes}
use Rattle.std.proofs.lemmas.Bool.{false≢true}
use Rattle.std.proofs.lemmas.List.{length-map}
use Rattle.reg_show_cli.proofs.Counted.{alone_length, alone_named, one_word}
use Rattle.reg_show_cli.proofs.asking.is_alone.Goals as goal

pub returns-then-words-ne2 : goal.returns-then-words-ne2
returns-then-words-ne2 c =
    let ws = map string_bytes c.args.words.now in
    (λ e. absurd (false≢true e), λ h. absurd (c.if-words-ne2.true (sym (length-map c.args.words.now string_bytes) ∙ alone_length ws c.args.word.now h)))

pub returns : goal.returns
returns c =
    let ws = map string_bytes c.args.words.now in
    let n : length ws ≡ 2 = length-map c.args.words.now string_bytes ∙ c.if-words-ne2.false in
    (λ e. one_word ws c.args.word.now n (c.is_at.ensures.0 e), λ h. c.is_at.ensures.1 (alone_named ws c.args.word.now h))
