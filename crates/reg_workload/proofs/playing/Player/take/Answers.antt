use Rattle.reg_workload.proofs.Allowed.{take_allowed}
use Rattle.reg_workload.proofs.playing.Player.take.Goals as goal

pub pass-requires-clause-allowed : goal.pass-requires-clause-allowed
pass-requires-clause-allowed g c = take_allowed g.F.FrontEnd.start c.args.self.now c.args.from c.args.to c.args.number c.requires.going c.requires.room c.requires.from c.requires.to c.requires.next
