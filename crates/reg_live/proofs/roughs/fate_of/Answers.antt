use Rattle.std.proofs.Common.{rules}
use Rattle.reg_live.proofs.roughs.fate_of.Goals as goal

pub returns-then-happens-clause-fate : goal.returns-then-happens-clause-fate
returns-then-happens-clause-fate g c = search rules
