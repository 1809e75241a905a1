use Rattle.std.proofs.Common.{sym, subst}
use Rattle.reg_base.specs.declared.memory.OpId.{OpId}
use Rattle.reg_outcomes.specs.declared.orders.sources.Maker.{Maker}
use Rattle.reg_outcomes.specs.Forced.{Comes, Covers}
use Rattle.reg_outcomes.proofs.orders.forcing.is_behind.Goals as goal

pub returns-in-Only : goal.returns-in-Only
returns-in-Only g c = λ s t forced x covers. subst (λ (y : OpId). Comes s y c.args.other) (sym (subst (λ (m : Maker). Covers m x) c.in-Only.is covers)) (c.has.ensures s t forced)
