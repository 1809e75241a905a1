use Rattle.std.proofs.Common.{◌≡◌, ℕ, ap, subst, arith}
use Rattle.reg_base.specs.Shape.{Extent}
use Rattle.reg_outcomes.specs.Layers.{stage_of}
use Rattle.reg_outcomes.specs.Losing.{IsLost}
use Rattle.reg_outcomes.proofs.Losing.{lost_is}
use Rattle.reg_outcomes.proofs.orders.finding.loses_value.Goals as goal

pub returns : goal.returns
returns g c = λ t.
    let s = c.args.finder.now in
    let e = c.processes-processes.ensures.value in
    let same : c.shape.result.processes ≡ s.shape.processes = ap (λ (x : Extent). x.processes) c.shape.ensures in
    lost_is s.kind s.shape.processes s.shape.registers s.entries c.requires.history c.args.uses.now c.requires.uses c.in-Some.value (stage_of c.args.walk.now.stage)
    (subst (λ (n : ℕ). IsLost c.args.uses.now (stage_of c.args.walk.now.stage) n c.in-Some.value) (omega (arith, e, same)) (c.is_lost.ensures t))
