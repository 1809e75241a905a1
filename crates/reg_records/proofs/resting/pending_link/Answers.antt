use Rattle.std.proofs.Common.{arith}
use Rattle.reg_records.proofs.Pending.{all_none}
use Rattle.reg_records.proofs.resting.pending_link.Goals as goal

pub returns : goal.returns
returns g c = all_none g.F.FrontEnd.start c.args.world.now c.args.process c.requires.process (λ k l ne. c.loop-to.invariant k (let a = c.processes-to-end.ensures in let b = c.loop-to-test.false in omega (arith, a, b, l)) ne)
