use Rattle.reg_world.specs.Worlds.{Made}
use Rattle.reg_world.proofs.witness.Promised.{replies_right}
use Rattle.reg_world.proofs.running.World.history.Goals as goal

pub returns-clause-replies : goal.returns-clause-replies
returns-clause-replies g c = let m : Made = c.args.self.now in replies_right g.F.FrontEnd.start m.processes m.registers g.met.F.FrontEnd.lawful m.accepted
