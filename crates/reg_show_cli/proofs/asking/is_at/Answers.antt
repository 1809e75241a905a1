use Rattle.std.proofs.Common.{string_bytes}
use Rattle.std.proofs.lemmas.Bool.{false≢true}
use Rattle.reg_show_cli.proofs.Counted.{bytes_at, no_bytes, tells_word}
use Rattle.reg_show_cli.proofs.asking.is_at.Goals as goal

pub returns-then-place-words : goal.returns-then-place-words
returns-then-place-words c = (λ e. absurd (false≢true e), λ h. absurd (no_bytes c.args.words.now c.args.place c.args.word.now c.if-place-words.true h))

pub returns : goal.returns
returns c = tells_word c.eq.result c.as_str.result.now (string_bytes c.index-words-place.result) c.args.word.now _ c.eq.ensures c.as_str.ensures.value (bytes_at c.args.words.now c.args.place c.index-words-place.result c.if-place-words.false c.index-words-place.is)
