use Rattle.std.proofs.Common.{rules}
use Rattle.reg_process.proofs.parts.delivering.settle.Goals as goal

pub returns-then-eq-clause-reply : goal.returns-then-eq-clause-reply
returns-then-eq-clause-reply g c = search rules

pub returns-then-left-eq0-clause-reply : goal.returns-then-left-eq0-clause-reply
returns-then-left-eq0-clause-reply g c = search rules
