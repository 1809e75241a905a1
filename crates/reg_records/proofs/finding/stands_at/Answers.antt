use Rattle.std.proofs.Common.{rules}
use Rattle.reg_records.proofs.finding.stands_at.Goals as goal

pub returns-in-Some : goal.returns-in-Some
returns-in-Some g c = search rules
