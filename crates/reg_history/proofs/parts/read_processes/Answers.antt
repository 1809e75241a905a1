use Rattle.std.proofs.Common.{arith, codes}
use Rattle.reg_text.proofs.Numbered.{asked_on}
use Rattle.reg_history.specs.Versions.{most_processes}
use Rattle.reg_history.proofs.PassedOn.{nothing_read}
use Rattle.reg_history.proofs.Stopping.{count_fails, failure_passed_on, not_failed, zero_fails}
use Rattle.reg_history.proofs.parts.read_processes.Goals as goal

pub returns-in_err-processes-clause-whole : goal.returns-in_err-processes-clause-whole
returns-in_err-processes-clause-whole c = λ n rest some few e.
    absurd (c.in_err-processes.ensures.whole n rest (omega (arith, few, c.most_processes.ensures)) e)

pub returns-then-processes-eq0-clause-whole : goal.returns-then-processes-eq0-clause-whole
returns-then-processes-eq0-clause-whole c = λ n rest some few e.
    let read = c.in_ok-processes.ensures.whole n rest (omega (arith, few, c.most_processes.ensures)) e in
    absurd (omega (arith, read.0, some))

pub returns-clause-whole : goal.returns-clause-whole
returns-clause-whole c =
    λ n rest some few e. c.in_ok-processes.ensures.whole n rest (omega (arith, few, c.most_processes.ensures)) e

pub returns-in_err-processes-clause-read : goal.returns-in_err-processes-clause-read
returns-in_err-processes-clause-read c = nothing_read c.from_residual.result _ _ c.from_residual.ensures.1

pub returns-clause-read : goal.returns-clause-read
returns-clause-read c = (c.in_ok-processes.ensures.read.0, omega (arith, c.if-processes-eq0.false), omega (arith, c.in_ok-processes.ensures.read.1, c.most_processes.ensures))

pub returns-in_err-processes-clause-stopped : goal.returns-in_err-processes-clause-stopped
returns-in_err-processes-clause-stopped c =
    let told = c.in_err-processes.ensures in
    failure_passed_on c.from_residual.result _ _ c.from_residual.ensures.1
    (count_fails (codes "processes ") (most_processes c.args.version) c.args.lines.now c.read_count.new.lines c.in_err-processes.field-0.0 told.fault.0 told.fault.1 told.asked told.end told.range told.form
    (λ k rest few e. told.whole k rest (omega (arith, few, c.most_processes.ensures)) e) 1)

pub returns-then-processes-eq0-clause-stopped : goal.returns-then-processes-eq0-clause-stopped
returns-then-processes-eq0-clause-stopped c =
    let read = c.in_ok-processes.ensures in
    zero_fails (codes "processes ") (most_processes c.args.version) c.in_ok-processes.processes c.args.lines.now c.read_count.new.lines c.at_line.result c.at_line.ensures read.asked read.read.0 (omega (arith, c.if-processes-eq0.true))
    (λ k rest few e. (read.whole k rest (omega (arith, few, c.most_processes.ensures)) e).0)

pub returns-in_err-processes-clause-on : goal.returns-in_err-processes-clause-on
returns-in_err-processes-clause-on c = not_failed c.from_residual.result _ _ c.from_residual.ensures.1

pub returns-clause-on : goal.returns-clause-on
returns-clause-on c = asked_on c.args.lines.now c.read_count.new.lines _ c.read_count.new.lines.left c.in_ok-processes.ensures.asked c.in_ok-processes.ensures.read.0
