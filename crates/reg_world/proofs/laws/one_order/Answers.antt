use Rattle.reg_world.proofs.witness.Promised.{longest, order_right, casts_right}
use Rattle.reg_world.proofs.one_memory.Arrivals.{firsts_right}
use Rattle.reg_world.proofs.one_order.NodeLaws.{deliveries_agree, all_deliveries_rise, deliveries_made}
use Rattle.reg_world.proofs.one_order.NodeLaws.{undelivered_later}
use Rattle.reg_world.proofs.laws.one_order.Goals as goal

pub returns-clause-agree : goal.returns-clause-agree
returns-clause-agree c = λ start n registers events laws. deliveries_agree start n registers events

pub returns-clause-rise : goal.returns-clause-rise
returns-clause-rise c = λ start n registers events laws. all_deliveries_rise start n registers events

pub returns-clause-made : goal.returns-clause-made
returns-clause-made c = λ start n registers events laws. deliveries_made start n registers events

pub returns-clause-above : goal.returns-clause-above
returns-clause-above c = λ start n registers events more laws. undelivered_later start n registers events more

pub returns-clause-longest : goal.returns-clause-longest
returns-clause-longest c = λ start n registers events laws. longest start n registers laws events

pub returns-clause-order : goal.returns-clause-order
returns-clause-order c = λ start n registers events laws. order_right start n registers laws events

pub returns-clause-firsts : goal.returns-clause-firsts
returns-clause-firsts c = λ start n registers events laws. firsts_right start n registers laws events

pub returns-clause-casts : goal.returns-clause-casts
returns-clause-casts c = λ start n registers events laws. casts_right start n registers laws events
