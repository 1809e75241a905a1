use Rattle.std.proofs.Common.{map, string_bytes}
use Rattle.reg_show_cli.proofs.Flagged.{plays_behind}
use Rattle.reg_show_cli.proofs.flags.plays_behind_seed.Goals as goal

pub returns : goal.returns
returns c = plays_behind (map string_bytes c.args.flags.now) (map string_bytes c.in_ok-seed.rest.now) c.in_ok-seed.seed c.in_ok-plays.plays c.some_plays.result c.in_ok-seed.ensures.read.0 c.in_ok-seed.ensures.read.1 c.in_ok-plays.ensures.1 c.in_ok-plays.ensures.0 c.some_plays.ensures
