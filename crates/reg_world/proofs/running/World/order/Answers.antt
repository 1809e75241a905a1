use Rattle.reg_world.specs.Worlds.{Made}
use Rattle.reg_world.proofs.witness.Promised.{longest, order_right}
use Rattle.reg_world.proofs.one_memory.Arrivals.{firsts_right}
use Rattle.reg_world.proofs.one_order.NodeLaws.{deliveries_agree, all_deliveries_rise, deliveries_made}
use Rattle.reg_world.proofs.one_order.NodeLaws.{undelivered_later}
use Rattle.reg_world.proofs.running.World.order.Goals as goal

pub returns-clause-agree : goal.returns-clause-agree
returns-clause-agree g c =
    let m : Made = c.args.self.now in deliveries_agree g.F.FrontEnd.start m.processes m.registers m.accepted

pub returns-clause-rise : goal.returns-clause-rise
returns-clause-rise g c =
    let m : Made = c.args.self.now in all_deliveries_rise g.F.FrontEnd.start m.processes m.registers m.accepted

pub returns-clause-longest : goal.returns-clause-longest
returns-clause-longest g c = let m : Made = c.args.self.now in longest g.F.FrontEnd.start m.processes m.registers g.met.F.FrontEnd.lawful m.accepted

pub returns-clause-right : goal.returns-clause-right
returns-clause-right g c = let m : Made = c.args.self.now in order_right g.F.FrontEnd.start m.processes m.registers g.met.F.FrontEnd.lawful m.accepted

pub returns-clause-firsts : goal.returns-clause-firsts
returns-clause-firsts g c = let m : Made = c.args.self.now in firsts_right g.F.FrontEnd.start m.processes m.registers g.met.F.FrontEnd.lawful m.accepted

pub returns-clause-made : goal.returns-clause-made
returns-clause-made g c =
    let m : Made = c.args.self.now in deliveries_made g.F.FrontEnd.start m.processes m.registers m.accepted

pub returns-clause-above : goal.returns-clause-above
returns-clause-above g c = let m : Made = c.args.self.now in λ more. undelivered_later g.F.FrontEnd.start m.processes m.registers m.accepted more
