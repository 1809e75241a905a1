use Rattle.std.proofs.Common.{◌∷◌, ◌++◌, codes, ap, ◌∙◌, arith}
use Rattle.std.specs.Fmt.{decimal}
use Rattle.reg_history.proofs.id_lines.read_process.Goals as goal

pub returns-in_err-text-clause-whole : goal.returns-in_err-text-clause-whole
returns-in_err-text-clause-whole c = λ process rest less e. absurd (c.in_err-text.ensures.whole _ e)

pub returns-in_err-process-clause-whole : goal.returns-in_err-process-clause-whole
returns-in_err-process-clause-whole c = λ process rest less e.
    let first = c.in_ok-text.ensures.whole _ e in
    absurd (c.in_err-process.ensures.whole process _ (omega (arith, less, c.last_process.ensures)) first)

pub returns-in_err-rest-clause-whole : goal.returns-in_err-rest-clause-whole
returns-in_err-rest-clause-whole c = λ process rest less e.
    let first = c.in_ok-text.ensures.whole _ e in
    let second = c.in_ok-process.ensures.whole process _ (omega (arith, less, c.last_process.ensures)) first in
    absurd (c.in_err-rest.ensures.whole rest second.1)

pub returns-clause-read : goal.returns-clause-read
returns-clause-read c =
    let process = decimal c.in_ok-process.process in
    (omega (arith, c.in_ok-process.ensures.read.1, c.last_process.ensures), c.in_ok-text.ensures.read ∙ ap (λ l. codes "p" ++ l) (c.in_ok-process.ensures.read.0 ∙ ap (λ l. process ++ 32 ∷ l) c.in_ok-rest.ensures.read))

pub returns-clause-whole : goal.returns-clause-whole
returns-clause-whole c = λ process rest less e.
    let first = c.in_ok-text.ensures.whole _ e in
    let second = c.in_ok-process.ensures.whole process _ (omega (arith, less, c.last_process.ensures)) first in
    (second.0, c.in_ok-rest.ensures.whole rest second.1)
