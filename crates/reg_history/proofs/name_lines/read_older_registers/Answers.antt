use Rattle.std.proofs.Common.{rules}
use Rattle.reg_text.proofs.Numbered.{asked_on}
use Rattle.reg_history.proofs.Heads.{names_fail}
use Rattle.reg_history.proofs.Stopping.{failure_passed_on, not_failed}
use Rattle.reg_history.proofs.name_lines.read_older_registers.Goals as goal

pub returns-in_err-names-clause-whole : goal.returns-in_err-names-clause-whole
returns-in_err-names-clause-whole g c = λ names rest ok few e.
    let none = c.in_err-names.ensures.whole names rest ok few e in
    search rules

pub returns-clause-read : goal.returns-clause-read
returns-clause-read g c = (c.in_ok-names.ensures.read.0, c.in_ok-names.ensures.read.1, c.in_ok-names.ensures.few)

pub returns-clause-whole : goal.returns-clause-whole
returns-clause-whole g c = λ names rest ok few e. c.in_ok-names.ensures.whole names rest ok few e

pub returns-in_err-names-clause-stopped : goal.returns-in_err-names-clause-stopped
returns-in_err-names-clause-stopped g c =
    let told = c.in_err-names.ensures in
    failure_passed_on c.from_residual.result _ _ c.from_residual.ensures.1 (names_fail c.args.lines.now c.read_names.new.lines c.in_err-names.field-0.0 told.asked told.end told.words told.form told.whole told.fault)

pub returns-in_err-names-clause-on : goal.returns-in_err-names-clause-on
returns-in_err-names-clause-on g c = not_failed c.from_residual.result _ _ c.from_residual.ensures.1

pub returns-clause-on : goal.returns-clause-on
returns-clause-on g c = asked_on c.args.lines.now c.read_names.new.lines _ c.read_names.new.lines.left c.in_ok-names.ensures.asked c.in_ok-names.ensures.read.0
