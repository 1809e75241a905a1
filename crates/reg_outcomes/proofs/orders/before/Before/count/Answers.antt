use Rattle.std.proofs.Common.{arith}
use Rattle.reg_outcomes.proofs.Known.{is_count}
use Rattle.reg_outcomes.proofs.orders.before.Before.count.Goals as goal

pub returns : goal.returns
returns g c = is_count c.args.self.now c.args.id c.args.process c.place_of.result c.at.result (omega (arith, c.if-process-self.false)) c.place_of.ensures c.at.ensures
