use Rattle.std.proofs.Common.{◌<◌, length, subst, arith}
use Rattle.reg_workload.specs.Plays.{Playing, IsFinished}
use Rattle.reg_workload.specs.PlayParts.{IsPlaying}
use Rattle.reg_workload.proofs.Scripts.{rest_done}
use Rattle.reg_workload.proofs.playing.Player.is_finished.Given.{Over}
use Rattle.reg_workload.proofs.playing.Player.is_finished.Goals as goal

-- a process that is not done
not_all : (g : Over) (c : goal.Then-not-is_done g)
    → IsFinished g.F.FrontEnd.start c.args.self.now.scripts c.args.self.now.made → ⊥
not_all g c all =
    let good : IsPlaying c.args.self.now = subst (λ (s : Playing). IsPlaying s) c.self.view_is c.self.invariant in
    let within : c.loop-process.process < length c.args.self.now.scripts = let a = good.scripts in let b = c.loop-process-test.true in let e = c.processes-process-end.ensures.value in omega (arith, a, b, e) in
    let t = c.is_done.ensures.1 (all c.loop-process.process within) in let f = c.if-not-is_done.true in absurd (cc)

pub returns-then-not-is_done-clause-rest : goal.returns-then-not-is_done-clause-rest
returns-then-not-is_done-clause-rest g c = λ rest.
    let good : IsPlaying c.args.self.now = subst (λ (s : Playing). IsPlaying s) c.self.view_is c.self.invariant in
    absurd (not_all g c (rest_done g.F.FrontEnd.start g.met.F.FrontEnd.lawful c.args.self.now good rest))

pub returns-then-not-is_done-clause-finished : goal.returns-then-not-is_done-clause-finished
returns-then-not-is_done-clause-finished g c = (λ e. absurd (cc), λ all. absurd (not_all g c all))
