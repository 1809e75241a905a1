use Rattle.std.proofs.Common.{◌≡◌, arith}
use Rattle.reg_process.proofs.Again.{replicate_at}
use Rattle.reg_workload.proofs.Placing.{none_listed, one_more_listed, all_listed}
use Rattle.reg_workload.proofs.choices.Chances.new.Goals as goal

pub loop-process-init : goal.loop-process-init
loop-process-init g c = none_listed g.F.FrontEnd.start c.args.player.now _ (λ p. replicate_at 64 p 0) (let v = c.processes-process-end.ensures.value in let m = c.processes-process-end.ensures.few in omega (arith, v, m))

pub loop-process-preserved : goal.loop-process-preserved
loop-process-preserved g c = one_more_listed g.F.FrontEnd.start c.args.player.now c.loop-process.process c.loop-process.chances c.list.new.self c.loop-process.invariant c.list.ensures

pub returns : goal.returns
returns g c =
    let end : c.loop-process.process ≡ c.args.player.now.made.processes = let t = c.loop-process-test.false in let v = c.processes-process-end.ensures.value in let w = c.loop-process.auto.process-end in omega (arith, t, v, w) in
    all_listed g.F.FrontEnd.start c.args.player.now c.loop-process.process c.loop-process.chances end c.loop-process.invariant
