use Rattle.reg_outcomes.proofs.Known.{no_maker, only_source}
use Rattle.reg_outcomes.proofs.orders.forcing.source_of.Goals as goal

pub returns-in-Some : goal.returns-in-Some
returns-in-Some c =
    λ h reader. only_source h c.args.reader c.in-Some.maker c.only_of.result c.in-Some.is reader c.only_of.ensures

pub returns-in-None : goal.returns-in-None
returns-in-None c = λ h reader id maker. absurd (no_maker h c.args.reader c.in-None.is reader id maker)
