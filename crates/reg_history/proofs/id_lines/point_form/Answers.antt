use Rattle.std.proofs.Common.{ap, sym, ◌∙◌, arith}
use Rattle.reg_text.specs.Forms.{is_numeral}
use Rattle.reg_text.proofs.Formed.{numeral_lacks, no_truth}
use Rattle.reg_history.proofs.Formed.{point_formed}
use Rattle.reg_history.proofs.id_lines.point_form.Goals as goal

pub returns-in_err-rest-clause-whole : goal.returns-in_err-rest-clause-whole
returns-in_err-rest-clause-whole c = λ p n a h. absurd (c.in_err-rest.ensures.whole p _ h.0 h.3)

pub returns-in_err-number-clause-whole : goal.returns-in_err-number-clause-whole
returns-in_err-number-clause-whole c = λ p n a h.
    let first = c.in_ok-rest.ensures.whole p _ h.0 h.3 in
    absurd (c.in_err-number.ensures.whole n _ (numeral_lacks 32 n (omega arith) h.1) first.1)

pub returns-in_err-event-clause-whole : goal.returns-in_err-event-clause-whole
returns-in_err-event-clause-whole c = λ p n a h.
    let first = c.in_ok-rest.ensures.whole p _ h.0 h.3 in
    let second = c.in_ok-number.ensures.whole n _ (numeral_lacks 32 n (omega arith) h.1) first.1 in
    absurd (c.in_err-event.ensures.whole a second.1)

pub returns-then-not-is_numeral-clause-whole : goal.returns-then-not-is_numeral-clause-whole
returns-then-not-is_numeral-clause-whole c = λ p n a h.
    let first = c.in_ok-rest.ensures.whole p _ h.0 h.3 in
    let second = c.in_ok-number.ensures.whole n _ (numeral_lacks 32 n (omega arith) h.1) first.1 in
    no_truth (sym c.if-not-is_numeral.true ∙ (c.is_numeral.ensures ∙ ap is_numeral second.0 ∙ h.1))

pub returns-clause-whole : goal.returns-clause-whole
returns-clause-whole c = λ p n a h.
    let first = c.in_ok-rest.ensures.whole p _ h.0 h.3 in
    let second = c.in_ok-number.ensures.whole n _ (numeral_lacks 32 n (omega arith) h.1) first.1 in
    let third = c.in_ok-event.ensures.whole a second.1 in
    c.form.ensures.1 (c.is_numeral-2.ensures ∙ ap is_numeral third ∙ h.2)

pub returns-clause-read : goal.returns-clause-read
returns-clause-read c = λ h.
    point_formed c.args.line.now _ c.in_ok-rest.rest.now c.in_ok-number.number.now c.in_ok-number.last.now c.in_ok-event.event.now c.in_ok-rest.ensures.read.0 c.in_ok-rest.ensures.read.1 c.in_ok-number.ensures.read.0 c.in_ok-event.ensures.read
    (sym c.is_numeral.ensures ∙ c.if-not-is_numeral.false) (sym c.is_numeral-2.ensures ∙ c.form.ensures.0 h)
