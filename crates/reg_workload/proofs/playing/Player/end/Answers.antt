use Rattle.std.proofs.Common.{subst, sym, ap}
use Rattle.reg_world.specs.Worlds.{Made}
use Rattle.reg_workload.specs.Plays.{Playing, IsPlay}
use Rattle.reg_workload.specs.PlayParts.{IsPlaying}
use Rattle.reg_workload.proofs.Scripts.{is_play}
use Rattle.reg_workload.proofs.playing.Player.end.Goals as goal

pub returns-clause-play : goal.returns-clause-play
returns-clause-play g c = λ shape budget p r l.
    let good : IsPlaying c.args.self = subst (λ (s : Playing). IsPlaying s) c.self.view_is c.self.invariant in
    subst (λ (m : Made). IsPlay g.F.FrontEnd.start shape c.args.self.scripts budget m c.is_finished-finished.result) (sym (ap Playing.made c.self.view_is))
    (is_play g.F.FrontEnd.start shape c.args.self c.is_finished-finished.result good c.requires c.is_finished-finished.ensures.finished budget p r l)
