use Rattle.std.proofs.Common.{ltb-true}
use Rattle.reg_outcomes.proofs.orders.before.Before.has.Goals as goal

pub returns : goal.returns
returns g c =
    λ s t forced. c.known.ensures s c.args.earlier.number forced (ltb-true c.args.earlier.number c.known.result t)
