use Rattle.std.proofs.Common.{rules, ◌≡◌, ◌++◌, ◌∷◌, slice_index_or, ap, ◌∙◌, sym, Some, None}
use Rattle.std.proofs.lemmas.Option.{none-some, same_Some}
use Rattle.std.specs.Fmt.{decimal}
use Rattle.reg_text.proofs.Decimals.{plain_decimal}
use Rattle.reg_text.proofs.NumbersLack.{decimal_lacks}
use Rattle.reg_text.proofs.Parts.{rest_of}
use Rattle.reg_text.proofs.Shorts.{one_before}
use Rattle.reg_text.proofs.numbers.field.Goals as goal

pub returns-in_err-number-clause-whole : goal.returns-in_err-number-clause-whole
returns-in_err-number-clause-whole c = λ n rest small e.
    let here : slice_index_or c.args.bytes.now 1 0 ≡ c.args.mark = search (rules, c.if-second-mark.true) in
    let one = one_before c.args.mark c.args.bytes.now (decimal n) rest (plain_decimal n small).0 (decimal_lacks c.args.mark n c.requires small) here e in
    let some : c.digit.result ≡ Some n = c.digit.ensures.whole n small one.0 in
    let none : c.digit.result ≡ None = c.in_err-number.was in
    absurd (none-some n (sym none ∙ some))

pub returns-then-second-mark-clause-whole : goal.returns-then-second-mark-clause-whole
returns-then-second-mark-clause-whole c = λ n rest small e.
    let here : slice_index_or c.args.bytes.now 1 0 ≡ c.args.mark = search (rules, c.if-second-mark.true) in
    let one = one_before c.args.mark c.args.bytes.now (decimal n) rest (plain_decimal n small).0 (decimal_lacks c.args.mark n c.requires small) here e in
    let some : c.digit.result ≡ Some n = c.digit.ensures.whole n small one.0 in
    let both : Some c.in_ok-number.number ≡ Some n = sym c.in_ok-number.was ∙ some in
    let same : c.in_ok-number.number ≡ n = same_Some c.in_ok-number.number n both in
    (same, rest_of c.args.bytes.now 2 ∙ one.1)

pub returns-in_err-number-2-clause-whole : goal.returns-in_err-number-2-clause-whole
returns-in_err-number-2-clause-whole c = λ n rest small e.
    let both = c.in_ok-digits.ensures.whole (decimal n) rest (decimal_lacks c.args.mark n c.requires small) e in
    absurd (none-some n (c.in_err-number-2.ensures.whole n small both.0))

pub returns-clause-whole : goal.returns-clause-whole
returns-clause-whole c = λ n rest small e.
    let both = c.in_ok-digits.ensures.whole (decimal n) rest (decimal_lacks c.args.mark n c.requires small) e in
    let one = c.in_ok-number-2.ensures.whole n small both.0 in
    (same_Some c.in_ok-number-2.number n one, both.1)

pub returns-in_err-digits-clause-whole : goal.returns-in_err-digits-clause-whole
returns-in_err-digits-clause-whole c = λ n rest small e. absurd (c.in_err-digits.ensures.whole (decimal n) rest (decimal_lacks c.args.mark n c.requires small) e)

pub returns-clause-read : goal.returns-clause-read
returns-clause-read c =
    let number = c.in_ok-number-2.ensures.read in
    (c.in_ok-digits.ensures.read.0 ∙ ap (λ l. l ++ c.args.mark ∷ c.in_ok-digits.rest.now) number.0, number.1)
