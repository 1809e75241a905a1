use Rattle.std.proofs.Common.{rules}
use Rattle.reg_front.proofs.ends.look_or_hold.Goals as goal

pub returns-then-unsettled-eq0 : goal.returns-then-unsettled-eq0
returns-then-unsettled-eq0 c = search rules

pub returns-else-unsettled-eq0 : goal.returns-else-unsettled-eq0
returns-else-unsettled-eq0 c = search rules
