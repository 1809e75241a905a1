use Rattle.std.proofs.Common.{◌≡◌, length, sym, ap, ◌∙◌, true, ◌++◌}
use Rattle.reg_text.proofs.Formed.{no_truth}
use Rattle.reg_text.specs.Columns.{to_right}
use Rattle.reg_text.specs.Forms.{is_numeral}
use Rattle.reg_history.proofs.Numerals.{length_right, right_column}
use Rattle.reg_history.proofs.column_forms.right_numeral.Goals as goal

pub returns-in_err-column-clause-whole : goal.returns-in_err-column-clause-whole
returns-in_err-column-clause-whole c =
    λ digits rest fits e. absurd (c.in_err-column.ensures.whole _ _ e (length_right c.args.places digits fits.short))

pub returns-then-not-is_numeral-clause-whole : goal.returns-then-not-is_numeral-clause-whole
returns-then-not-is_numeral-clause-whole c = λ digits rest fits e.
    let long = length_right c.args.places digits fits.short in
    let parts = c.in_ok-column.ensures.whole _ _ e long in
    let column : c.in_ok-column.column.now ≡ to_right (length c.in_ok-column.column.now) digits = parts.0 ∙ ap (λ m. to_right m digits) (sym (ap length parts.0 ∙ long)) in
    let behind = c.behind-digits.ensures.whole digits fits.numeral_is column in
    let good : c.is_numeral.result ≡ true = c.is_numeral.ensures ∙ ap is_numeral behind ∙ fits.numeral_is in
    no_truth (sym c.if-not-is_numeral.true ∙ good)

pub returns-in_err-rest-clause-whole : goal.returns-in_err-rest-clause-whole
returns-in_err-rest-clause-whole c = λ digits rest fits e.
    let parts = c.in_ok-column.ensures.whole _ _ e (length_right c.args.places digits fits.short) in
    absurd (c.in_err-rest.ensures.whole rest parts.1)

pub returns-clause-read : goal.returns-clause-read
returns-clause-read c =
    let numeral : is_numeral c.behind-digits.result.now ≡ true = sym c.is_numeral.ensures ∙ c.if-not-is_numeral.false in
    right_column c.args.places c.args.bytes.now c.in_ok-column.column.now c.in_ok-column.after.now c.behind-digits.result.now (c.args.mark.now ++ c.in_ok-rest.rest.now)
    c.in_ok-column.ensures.read.0 c.in_ok-column.ensures.read.1 numeral c.behind-digits.ensures.only c.in_ok-rest.ensures.read

pub returns-clause-whole : goal.returns-clause-whole
returns-clause-whole c = λ digits rest fits e.
    let long = length_right c.args.places digits fits.short in
    let parts = c.in_ok-column.ensures.whole _ _ e long in
    let column : c.in_ok-column.column.now ≡ to_right (length c.in_ok-column.column.now) digits = parts.0 ∙ ap (λ m. to_right m digits) (sym (ap length parts.0 ∙ long)) in
    (c.behind-digits.ensures.whole digits fits.numeral_is column, c.in_ok-rest.ensures.whole rest parts.1)
