use Rattle.std.proofs.Common.{◌<◌, length, arith, sym}
use Rattle.reg_checkers.proofs.Noting.{read_at}
use Rattle.reg_judge.proofs.Keeping.{done_more, extends_twice}
use Rattle.reg_judge.proofs.found.Found.complete.Goals as goal

pub loop-place-preserved : goal.loop-place-preserved
loop-place-preserved g c =
    let stages = c.loop-place.self.stages.items in
    let stage = c.index-stage.result.now in
    let inside : c.loop-place.place < length stages = (let lt = c.if-place-len.false in let len = c.len.ensures in omega (arith, lt, len)) in
    let here = read_at stages c.loop-place.place stage stage (sym c.index-stage.ensures) inside in
    record {
      extends = extends_twice c.args.self.now.stages.items stages c.finish.new.self.stages.items c.loop-place.invariant.extends c.in_ok-finish.ensures.extends;
      done = done_more c.loop-place.place c.args.movers.now c.args.process stages c.finish.new.self.stages.items stage here c.in_ok-finish.ensures.extends c.in_ok-finish.ensures.done c.loop-place.invariant.done;
    }
