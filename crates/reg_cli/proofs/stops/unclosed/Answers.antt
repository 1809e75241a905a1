use Rattle.std.proofs.Common.{rules}
use Rattle.reg_cli.proofs.stops.unclosed.Goals as goal

pub returns-in-Mismatch-clause-told : goal.returns-in-Mismatch-clause-told
returns-in-Mismatch-clause-told c = search rules
