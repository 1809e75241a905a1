use Rattle.std.proofs.Common.{rules}
use Rattle.reg_cli.proofs.words.named.Goals as goal

pub returns-in-live : goal.returns-in-live
returns-in-live c = search rules

pub returns-in-play : goal.returns-in-play
returns-in-play c = search rules
