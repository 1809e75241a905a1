use Rattle.std.proofs.Common.{rules}
use Rattle.reg_cli.proofs.stops.refused.Goals as goal

pub returns-in-Failed-clause-told : goal.returns-in-Failed-clause-told
returns-in-Failed-clause-told c = search rules
