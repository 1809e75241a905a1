use Rattle.reg_workload.proofs.Allowed.{tick_allowed}
use Rattle.reg_workload.proofs.playing.Player.tick.Goals as goal

pub pass-requires-clause-allowed : goal.pass-requires-clause-allowed
pass-requires-clause-allowed g c = tick_allowed g.F.FrontEnd.start c.args.self.now.made c.args.process c.requires.going c.requires.room c.requires.process
