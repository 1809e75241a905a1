use Rattle.std.proofs.Common.{rules}
use Rattle.reg_checkers.proofs.answers.is_wrong.Goals as goal

pub returns-in-Some-clause-verdict : goal.returns-in-Some-clause-verdict
returns-in-Some-clause-verdict g c = search rules
