use Rattle.std.proofs.Common.{map, string_bytes}
use Rattle.reg_show_cli.proofs.Flagged.{plays_first, plays_later}
use Rattle.reg_show_cli.proofs.flags.plays_flagged.Goals as goal

pub returns-in-Some : goal.returns-in-Some
returns-in-Some c = plays_first (map string_bytes c.args.flags.now) c.requires (map string_bytes c.in-Some.rest.now) c.in-Some.plays c.plays_before_seed.result c.in-Some.ensures.read.0 c.in-Some.ensures.read.1 c.plays_before_seed.ensures

pub returns-in-None : goal.returns-in-None
returns-in-None c = plays_later (map string_bytes c.args.flags.now) c.requires c.plays_behind_seed.result c.in-None.ensures.whole c.plays_behind_seed.ensures
