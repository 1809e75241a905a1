use Rattle.std.proofs.Common.{rules}
use Rattle.reg_history.proofs.name_lines.first_fault.Goals as goal

pub returns-in-SameName-clause-same : goal.returns-in-SameName-clause-same
returns-in-SameName-clause-same c = search rules
