use Rattle.reg_world.proofs.witness.Promised.{in_place}
use Rattle.reg_world.proofs.run.Begun.{again}
use Rattle.reg_world.proofs.run.Along.{few_events}
use Rattle.reg_world.proofs.laws.history_in_place.Goals as goal

pub returns-clause-in_place : goal.returns-clause-in_place
returns-clause-in_place c = λ start n registers events laws. in_place start n registers laws events

pub returns-clause-few : goal.returns-clause-few
returns-clause-few c = λ start n registers events laws. few_events start n registers events

pub returns-clause-again : goal.returns-clause-again
returns-clause-again c = again
