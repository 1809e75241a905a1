use Rattle.std.proofs.Common.{rules}
use Rattle.reg_text.proofs.numbers.numeral_within.Goals as goal

pub returns-else-number-limit-clause-whole : goal.returns-else-number-limit-clause-whole
returns-else-number-limit-clause-whole c = search rules
