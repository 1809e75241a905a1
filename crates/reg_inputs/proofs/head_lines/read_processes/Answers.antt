use Rattle.std.proofs.Common.{arith}
use Rattle.reg_inputs.proofs.head_lines.read_processes.Goals as goal

pub returns-then-processes-eq0-clause-whole : goal.returns-then-processes-eq0-clause-whole
returns-then-processes-eq0-clause-whole c = λ n rest some few e.
    let first = c.in_ok-processes.ensures.whole n _ few e in
    absurd (omega (arith, first.0, some))

pub returns-clause-whole : goal.returns-clause-whole
returns-clause-whole c = λ n rest some few e.
    let first = c.in_ok-processes.ensures.whole n _ few e in
    (first.0, first.1)
