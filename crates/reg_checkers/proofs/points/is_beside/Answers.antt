use Rattle.std.proofs.Common.{rules}
use Rattle.reg_checkers.proofs.points.is_beside.Goals as goal

pub returns-then-point-fact : goal.returns-then-point-fact
returns-then-point-fact c = search rules
