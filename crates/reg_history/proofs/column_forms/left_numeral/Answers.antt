use Rattle.std.proofs.Common.{◌≡◌, ◌++◌, length, sym, ap, ◌∙◌, true, arith}
use Rattle.reg_text.specs.Columns.{to_left}
use Rattle.reg_text.specs.Forms.{is_numeral}
use Rattle.reg_text.proofs.Formed.{numeral_lacks, no_truth}
use Rattle.reg_history.proofs.Numerals.{length_left, left_column}
use Rattle.reg_history.proofs.column_forms.left_numeral.Goals as goal

pub returns-in_err-column-clause-whole : goal.returns-in_err-column-clause-whole
returns-in_err-column-clause-whole c =
    λ digits rest fits e. absurd (c.in_err-column.ensures.whole _ _ e (length_left c.args.places digits fits.short))

pub returns-in_err-rest-clause-whole : goal.returns-in_err-rest-clause-whole
returns-in_err-rest-clause-whole c = λ digits rest fits e.
    let parts = c.in_ok-column.ensures.whole _ _ e (length_left c.args.places digits fits.short) in
    absurd (c.in_err-rest.ensures.whole rest parts.1)

pub returns-clause-read : goal.returns-clause-read
returns-clause-read c =
    left_column c.args.places c.args.bytes.now c.in_ok-column.column.now c.in_ok-column.after.now c.in_front-digits.result.now (c.args.mark.now ++ c.in_ok-rest.rest.now)
    c.in_ok-column.ensures.read.0 c.in_ok-column.ensures.read.1 (sym c.is_numeral.ensures ∙ c.if-not-is_numeral.false) c.in_front-digits.ensures.only c.in_ok-rest.ensures.read

pub returns-then-not-is_numeral-clause-whole : goal.returns-then-not-is_numeral-clause-whole
returns-then-not-is_numeral-clause-whole c = λ digits rest fits e.
    let long = length_left c.args.places digits fits.short in
    let parts = c.in_ok-column.ensures.whole _ _ e long in
    let column : c.in_ok-column.column.now ≡ to_left (length c.in_ok-column.column.now) digits = parts.0 ∙ ap (λ m. to_left m digits) (sym (ap length parts.0 ∙ long)) in
    let front = c.in_front-digits.ensures.front digits (numeral_lacks 32 digits (omega arith) fits.numeral_is) column in
    let good : c.is_numeral.result ≡ true = c.is_numeral.ensures ∙ ap is_numeral front ∙ fits.numeral_is in
    no_truth (sym c.if-not-is_numeral.true ∙ good)

pub returns-clause-whole : goal.returns-clause-whole
returns-clause-whole c = λ digits rest fits e.
    let long = length_left c.args.places digits fits.short in
    let parts = c.in_ok-column.ensures.whole _ _ e long in
    let column : c.in_ok-column.column.now ≡ to_left (length c.in_ok-column.column.now) digits = parts.0 ∙ ap (λ m. to_left m digits) (sym (ap length parts.0 ∙ long)) in
    let front = c.in_front-digits.ensures.front digits (numeral_lacks 32 digits (omega arith) fits.numeral_is) column in
    (front, c.in_ok-rest.ensures.whole rest parts.1)
