use Rattle.reg_world.specs.Worlds.{Made}
use Rattle.reg_world.proofs.one_memory.Arrivals.{reads_right}
use Rattle.reg_world.proofs.running.World.reads.Goals as goal

pub returns-clause-right : goal.returns-clause-right
returns-clause-right g c = let m : Made = c.args.self.now in reads_right g.F.FrontEnd.start m.processes m.registers g.met.F.FrontEnd.lawful m.accepted
