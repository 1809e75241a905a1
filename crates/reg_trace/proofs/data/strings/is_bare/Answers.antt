use Rattle.std.proofs.Common.{rules}
use Rattle.reg_trace.proofs.data.strings.is_bare.Goals as goal

pub returns-then-unit-ne62 : goal.returns-then-unit-ne62
returns-then-unit-ne62 c = search rules

pub returns-else-unit-ne62 : goal.returns-else-unit-ne62
returns-else-unit-ne62 c = search rules
