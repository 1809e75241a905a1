use Rattle.std.proofs.Common.{sym, ap, ◌∙◌, arith, ◌++◌, ◌∷◌}
use Rattle.reg_text.specs.Forms.{is_numeral, is_word}
use Rattle.reg_text.proofs.Formed.{compared_parts, word_lacks, numeral_lacks, no_truth}
use Rattle.reg_text.proofs.forms.compared_parts.Goals as goal

pub returns-in_err-expected-clause-whole : goal.returns-in_err-expected-clause-whole
returns-in_err-expected-clause-whole c = λ w x d h.
    let both = c.in_ok-name.ensures.whole w (x ++ 32 ∷ d) (word_lacks w h.0) h.3 in
    absurd (c.in_err-expected.ensures.whole x d (numeral_lacks 32 x (omega arith) h.1) both.1)

pub returns-then-not-is_word-clause-whole : goal.returns-then-not-is_word-clause-whole
returns-then-not-is_word-clause-whole c = λ w x d h.
    let parts = compared_parts c.args.text.now c.in_ok-name.name.now c.in_ok-name.values.now c.in_ok-expected.expected.now c.in_ok-expected.digits.now w x d c.in_ok-name.ensures.whole c.in_ok-expected.ensures.whole h in
    no_truth (sym c.if-not-is_word.true ∙ c.is_word.ensures ∙ ap is_word parts.0 ∙ h.0)

pub returns-then-not-is_numeral-clause-whole : goal.returns-then-not-is_numeral-clause-whole
returns-then-not-is_numeral-clause-whole c = λ w x d h.
    let parts = compared_parts c.args.text.now c.in_ok-name.name.now c.in_ok-name.values.now c.in_ok-expected.expected.now c.in_ok-expected.digits.now w x d c.in_ok-name.ensures.whole c.in_ok-expected.ensures.whole h in
    no_truth (sym c.if-not-is_numeral.true ∙ c.is_numeral.ensures ∙ ap is_numeral parts.1 ∙ h.1)

pub returns-then-not-is_numeral-2-clause-whole : goal.returns-then-not-is_numeral-2-clause-whole
returns-then-not-is_numeral-2-clause-whole c = λ w x d h.
    let parts = compared_parts c.args.text.now c.in_ok-name.name.now c.in_ok-name.values.now c.in_ok-expected.expected.now c.in_ok-expected.digits.now w x d c.in_ok-name.ensures.whole c.in_ok-expected.ensures.whole h in
    no_truth (sym c.if-not-is_numeral-2.true ∙ c.is_numeral-2.ensures ∙ ap is_numeral parts.2 ∙ h.2)

pub returns-clause-whole : goal.returns-clause-whole
returns-clause-whole c = λ w x d h.
    compared_parts c.args.text.now c.in_ok-name.name.now c.in_ok-name.values.now c.in_ok-expected.expected.now c.in_ok-expected.digits.now w x d c.in_ok-name.ensures.whole c.in_ok-expected.ensures.whole h
