use Rattle.std.proofs.Common.{subst}
use Rattle.reg_outcomes.specs.declared.orders.sources.Maker.{Maker}
use Rattle.reg_outcomes.specs.Forced.{Covers}
use Rattle.reg_outcomes.proofs.orders.forcing.only_of.Goals as goal

pub returns-in-Only : goal.returns-in-Only
returns-in-Only c = λ x covers. subst (λ (m : Maker). Covers m x) c.in-Only.is covers
