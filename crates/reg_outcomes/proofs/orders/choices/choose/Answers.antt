use Rattle.std.proofs.Common.{◌≡◌, ap, arith}
use Rattle.reg_base.specs.Shape.{Extent}
use Rattle.reg_outcomes.specs.Layers.{stage_of}
use Rattle.reg_outcomes.specs.Walking.{IsChoice}
use Rattle.reg_outcomes.proofs.Walking.{lesser_is, past_all}
use Rattle.reg_outcomes.proofs.orders.choices.choose.Goals as goal

pub loop-process-preserved : goal.loop-process-preserved
loop-process-preserved g c =
    let s = c.args.finder.now in
    lesser_is s.kind s.entries c.args.tried (stage_of c.args.stage.now) (IsChoice s.kind s.shape.processes s.shape.registers s.entries c.args.tried (stage_of c.args.stage.now)) c.loop-process.process c.loop-process.best c.offer.result c.lesser-best.result c.lesser-best.ensures.one_of c.lesser-best.ensures.none c.loop-process.invariant c.offer.ensures

pub returns : goal.returns
returns g c =
    let s = c.args.finder.now in
    let e = c.processes-processes.ensures.value in
    let same : c.shape.result.processes ≡ s.shape.processes = ap (λ (x : Extent). x.processes) c.shape.ensures in
    let end = c.loop-process-test.false in
    past_all s.kind s.entries c.args.tried (stage_of c.args.stage.now) (IsChoice s.kind s.shape.processes s.shape.registers s.entries c.args.tried (stage_of c.args.stage.now)) c.loop-process.process s.shape.processes c.loop-process.best (omega (arith, e, same, end)) c.loop-process.invariant
