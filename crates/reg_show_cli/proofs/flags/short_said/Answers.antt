use Rattle.std.proofs.Common.{map, string_bytes}
use Rattle.std.proofs.lemmas.Bool.{false≢true}
use Rattle.reg_show_cli.proofs.Shortly.{short_first, short_nowhere}
use Rattle.reg_show_cli.proofs.flags.short_said.Goals as goal

pub returns-in-Some : goal.returns-in-Some
returns-in-Some c = short_first (map string_bytes c.args.flags.now) (map string_bytes c.in-Some.rest.now) c.player_said.result c.in-Some.ensures.read c.player_said.ensures

pub returns-in-None : goal.returns-in-None
returns-in-None c = short_nowhere (map string_bytes c.args.flags.now) c.in_default.ensures.whole (λ e. false≢true (c.if-is_fair_and_short.ensures.1 e)) c.in-None.ensures
