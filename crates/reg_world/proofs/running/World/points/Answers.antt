use Rattle.reg_world.specs.Worlds.{Made}
use Rattle.reg_world.proofs.code.Answering.{if_ok, points_told}
use Rattle.reg_world.proofs.witness.Premises.{R, is_run}
use Rattle.reg_world.proofs.witness.Moments.{is_real_time}
use Rattle.reg_world.proofs.witness.Points.{points_order}
use Rattle.reg_world.proofs.witness.Times.{laws_of}
use Rattle.reg_world.proofs.running.World.points.Goals as goal

pub returns-clause-first : goal.returns-clause-first
returns-clause-first g c =
    if_ok c.points_of.result _ _ c.points_of.ensures (λ v h.
    points_told g.F.FrontEnd.start g.met.F.FrontEnd.lawful c.self.inside.failed c.self.inside.book c.self.inside.members.items c.self.invariant c.args.self.now c.self.view_is c.order.result.now c.callers.result.now v.items c.order.ensures c.callers.ensures h)

pub returns-clause-ordered : goal.returns-clause-ordered
returns-clause-ordered g c =
    let m : Made = c.args.self.now in
    let start = g.F.FrontEnd.start in
    let all = g.met.F.RealTime.casts_all in
    if_ok c.points_of.result _ _ (returns-clause-first g c) (λ v h.
    points_order (R start m.processes m.registers (laws_of start all) m.accepted) v.items (is_run start m.processes m.registers (laws_of start all) m.accepted) (is_real_time start m.processes m.registers all m.accepted) h)
