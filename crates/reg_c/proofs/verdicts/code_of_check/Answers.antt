use Rattle.std.proofs.Common.{rules}
use Rattle.reg_c.proofs.verdicts.code_of_check.Goals as goal

pub returns-in-Outside : goal.returns-in-Outside
returns-in-Outside c = search rules
