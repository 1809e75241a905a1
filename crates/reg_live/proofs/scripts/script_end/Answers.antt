use Rattle.std.proofs.Common.{rules}
use Rattle.reg_live.proofs.scripts.script_end.Goals as goal

pub returns-in-Some : goal.returns-in-Some
returns-in-Some c = search rules
