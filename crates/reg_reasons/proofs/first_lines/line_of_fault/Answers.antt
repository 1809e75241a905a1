use Rattle.std.proofs.Common.{rules}
use Rattle.reg_reasons.proofs.first_lines.line_of_fault.Goals as goal

pub returns : goal.returns
returns g c = search rules
