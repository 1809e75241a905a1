use Rattle.std.proofs.Common.{rules}
use Rattle.reg_links.proofs.beats.is_due.Goals as goal

pub returns-in-1 : goal.returns-in-1
returns-in-1 c = search rules

pub returns-in_default : goal.returns-in_default
returns-in_default c = search rules
