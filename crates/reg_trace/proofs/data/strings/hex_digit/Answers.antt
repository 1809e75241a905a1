use Rattle.std.proofs.Common.{rules}
use Rattle.reg_trace.proofs.data.strings.hex_digit.Goals as goal

pub returns-else-digit-lt10 : goal.returns-else-digit-lt10
returns-else-digit-lt10 c = search rules
