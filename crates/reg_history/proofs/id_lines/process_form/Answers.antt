use Rattle.std.proofs.Common.{◌∷◌, ◌++◌, codes, ap, sym, ◌∙◌, arith}
use Rattle.reg_text.specs.Forms.{is_numeral}
use Rattle.reg_text.proofs.Formed.{numeral_lacks, no_truth}
use Rattle.reg_history.proofs.id_lines.process_form.Goals as goal

pub returns-in_err-text-clause-whole : goal.returns-in_err-text-clause-whole
returns-in_err-text-clause-whole c = λ p rest h e. absurd (c.in_err-text.ensures.whole _ e)

pub returns-in_err-process-clause-whole : goal.returns-in_err-process-clause-whole
returns-in_err-process-clause-whole c = λ p rest h e.
    let first = c.in_ok-text.ensures.whole _ e in
    absurd (c.in_err-process.ensures.whole p _ (numeral_lacks 32 p (omega arith) h) first)

pub returns-in_err-rest-clause-whole : goal.returns-in_err-rest-clause-whole
returns-in_err-rest-clause-whole c = λ p rest h e.
    let first = c.in_ok-text.ensures.whole _ e in
    let second = c.in_ok-process.ensures.whole p _ (numeral_lacks 32 p (omega arith) h) first in
    absurd (c.in_err-rest.ensures.whole rest second.1)

pub returns-then-not-is_numeral-clause-whole : goal.returns-then-not-is_numeral-clause-whole
returns-then-not-is_numeral-clause-whole c = λ p rest h e.
    let first = c.in_ok-text.ensures.whole _ e in
    let second = c.in_ok-process.ensures.whole p _ (numeral_lacks 32 p (omega arith) h) first in
    no_truth (sym c.if-not-is_numeral.true ∙ (c.is_numeral.ensures ∙ ap is_numeral second.0 ∙ h))

pub returns-clause-read : goal.returns-clause-read
returns-clause-read c =
    let process = c.in_ok-process.process.now in
    (sym c.is_numeral.ensures ∙ c.if-not-is_numeral.false, c.in_ok-text.ensures.read ∙ ap (λ l. codes "p" ++ l) (c.in_ok-process.ensures.read.0 ∙ ap (λ l. process ++ 32 ∷ l) c.in_ok-rest.ensures.read))

pub returns-clause-whole : goal.returns-clause-whole
returns-clause-whole c = λ p rest h e.
    let first = c.in_ok-text.ensures.whole _ e in
    let second = c.in_ok-process.ensures.whole p _ (numeral_lacks 32 p (omega arith) h) first in
    (second.0, c.in_ok-rest.ensures.whole rest second.1)
