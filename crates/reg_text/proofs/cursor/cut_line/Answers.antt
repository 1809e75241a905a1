use Rattle.std.proofs.Common.{sym, ap, ◌∙◌, ◌∷◌, take, arith, true≢false}
use Rattle.reg_text.proofs.Found.{first_cut, nowhere}
use Rattle.reg_text.specs.Lines.{lines_of}
use Rattle.reg_text.proofs.Split.{empty_is, last_is, line_first, none_left}
use Rattle.reg_text.proofs.cursor.cut_line.Goals as goal

pub returns-then-is_empty-clause-lines : goal.returns-then-is_empty-clause-lines
returns-then-is_empty-clause-lines c =
    ap lines_of (empty_is c.args.text.now (sym c.is_empty.ensures ∙ c.if-is_empty.true)) ∙ none_left

pub returns-then-place-text-clause-lines : goal.returns-then-place-text-clause-lines
returns-then-place-text-clause-lines c =
    let place = c.line_feed-place.result in
    let first = c.line_feed-place.ensures in
    let read = first_cut 10 c.args.text.now place c.if-place-text.true (λ k low high e. true≢false (sym e ∙ first.before k low high)) (first.hit c.if-place-text.true) in
    ap lines_of read.0 ∙ line_first (take place c.args.text.now) _ read.1

pub returns-else-place-text-clause-lines : goal.returns-else-place-text-clause-lines
returns-else-place-text-clause-lines c =
    let none = nowhere 10 c.args.text.now (λ k high e. true≢false (sym e ∙ c.line_feed-place.ensures.before k (omega arith) (omega (arith, high, c.if-place-text.false)))) in
    last_is c.args.text.now (sym c.is_empty.ensures ∙ c.if-is_empty.false) none ∙ ap (λ lines. c.args.text.now ∷ lines) (sym (ap lines_of c.as_slice.ensures ∙ none_left))
