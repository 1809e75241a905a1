use Rattle.reg_outcomes.proofs.Known.{reader_is}
use Rattle.reg_outcomes.proofs.orders.sources.reader_of.Goals as goal

pub returns : goal.returns
returns g c = reader_is c.args.finder.now.entries c.args.makers.now _ c.requires c.in-Some.ensures c.maker_at.ensures
