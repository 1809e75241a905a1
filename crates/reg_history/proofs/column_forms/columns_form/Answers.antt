use Rattle.std.proofs.Common.{◌++◌, codes, ap, ◌∙◌}
use Rattle.reg_text.specs.Columns.{to_left, to_right}
use Rattle.reg_history.proofs.column_forms.columns_form.Goals as goal

pub returns-in_err-at-clause-whole : goal.returns-in_err-at-clause-whole
returns-in_err-at-clause-whole c =
    λ at process number rest has. absurd (c.in_err-at.ensures.whole at _ has.at_fits has.spelled)

pub returns-in_err-process-clause-whole : goal.returns-in_err-process-clause-whole
returns-in_err-process-clause-whole c = λ at process number rest has.
    let first = c.in_ok-at.ensures.whole at _ has.at_fits has.spelled in
    absurd (c.in_err-process.ensures.whole process _ has.process_fits first.1)

pub returns-in_err-number-clause-whole : goal.returns-in_err-number-clause-whole
returns-in_err-number-clause-whole c = λ at process number rest has.
    let first = c.in_ok-at.ensures.whole at _ has.at_fits has.spelled in
    let second = c.in_ok-process.ensures.whole process _ has.process_fits first.1 in
    absurd (c.in_err-number.ensures.whole number _ has.number_fits second.1)

pub returns-clause-read : goal.returns-clause-read
returns-clause-read c =
    let at = c.in_ok-at.at.now in
    let process = c.in_ok-process.process.now in
    record {
      at_fits = c.in_ok-at.ensures.read.0;
      process_fits = c.in_ok-process.ensures.read.0;
      number_fits = c.in_ok-number.ensures.read.0;
      spelled = c.in_ok-at.ensures.read.1 ∙ ap (λ l. to_right 8 at ++ (codes "  p" ++ l)) (c.in_ok-process.ensures.read.1 ∙ ap (λ l. to_left 3 process ++ (codes "  #" ++ l)) c.in_ok-number.ensures.read.1);
    }

pub returns-clause-whole : goal.returns-clause-whole
returns-clause-whole c = λ at process number rest has.
    let first = c.in_ok-at.ensures.whole at _ has.at_fits has.spelled in
    let second = c.in_ok-process.ensures.whole process _ has.process_fits first.1 in
    let third = c.in_ok-number.ensures.whole number _ has.number_fits second.1 in
    (first.0, second.0, third.0, third.1)
