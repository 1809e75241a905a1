use Rattle.reg_world.proofs.witness.Promised.{none_refused}
use Rattle.reg_world.proofs.laws.none_refused.Goals as goal

pub returns : goal.returns
returns c = λ start n registers events laws. none_refused start n registers laws events
