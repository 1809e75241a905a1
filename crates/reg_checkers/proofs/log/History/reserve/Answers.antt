use Rattle.std.proofs.Common.{rules}
use Rattle.reg_checkers.proofs.log.History.reserve.Goals as goal

pub returns-clause-room : goal.returns-clause-room
returns-clause-room g c = search rules
