use Rattle.reg_outcomes.proofs.Known.{covered, no_maker}
use Rattle.reg_outcomes.proofs.orders.forcing.is_behind_source.Goals as goal

pub returns-in-Some : goal.returns-in-Some
returns-in-Some g c = λ s t reader forced x maker. c.is_behind.ensures s t forced x (covered s.entries c.args.reader c.in-Some.maker c.in-Some.is reader x maker)

pub returns-in-None : goal.returns-in-None
returns-in-None g c = λ s t reader forced x maker. absurd (no_maker s.entries c.args.reader c.in-None.is reader x maker)
