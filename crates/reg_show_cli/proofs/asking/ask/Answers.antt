use Rattle.reg_cli.specs.Subcommands.{behind_name}
use Rattle.reg_show_cli.proofs.Counted.{asks_nothing}
use Rattle.reg_show_cli.proofs.asking.ask.Goals as goal

pub returns-in-None : goal.returns-in-None
returns-in-None c = asks_nothing (behind_name c.args.words.now) (c.plain_asked.ensures.why c.in_default.is) (c.plain_asked.ensures.verify c.in_default.is) (c.plain_asked.ensures.merge c.in_default.is) (c.plain_asked.ensures.story c.in_default.is) c.in_default-judging_asked.ensures (c.plain_asked.ensures.version c.in_default.is) (c.plain_asked.ensures.all c.in_default.is) (c.plain_asked.ensures.help c.in_default.is)
    c.in_default-text_asked.ensures c.in_default-view_asked.ensures c.in_default-outcome_asked.ensures c.in_default-order_asked.ensures c.in_default-player_asked.ensures c.in_default-short_asked.ensures c.in-None.ensures
