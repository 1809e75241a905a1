use Rattle.std.proofs.Common.{rules}
use Rattle.reg_commands.proofs.playing.played.Goals as goal

pub returns-clause-ok : goal.returns-clause-ok
returns-clause-ok g c = search rules

pub returns-clause-why : goal.returns-clause-why
returns-clause-why g c = search rules
