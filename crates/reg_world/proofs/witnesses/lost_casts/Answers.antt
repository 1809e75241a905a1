use Rattle.std.proofs.Common.{◌≡◌, List, arith, subst, ap, ◌∙◌}
use Rattle.std.specs.List.Sorted.{IsStable}
use Rattle.reg_world.specs.declared.witnesses.Ranked.{Ranked}
use Rattle.reg_world.specs.Witnesses.{ranked_cmp, last_stamp, lost_from}
use Rattle.reg_world.proofs.code.Reading.{lost_step, lost_all}
use Rattle.reg_world.proofs.witnesses.lost_casts.Goals as goal

pub loop-process-preserved : goal.loop-process-preserved
loop-process-preserved g c =
    lost_step c.last_stamp-last.result c.args.callers.now c.loop-process.process c.index-callers-process.result _ c.loop-process.lost.items c.add_lost.new.lost.items (omega arith) c.index-callers-process.is c.in_ok-add_lost.ensures c.loop-process.invariant

pub returns : goal.returns
returns g c =
    let same : c.loop-process.lost.items ≡ lost_from (last_stamp c.args.order.now) 0 c.args.callers.now =
    lost_all c.last_stamp-last.result c.args.callers.now c.loop-process.process _ c.loop-process.lost.items (omega arith) c.loop-process.invariant ∙ ap (λ l. lost_from l 0 c.args.callers.now) c.last_stamp-last.ensures in
    record {
      sorted = c.in_ok-sort.ensures.sorted;
      stable = subst (λ (l : List Ranked). IsStable ranked_cmp l c.sort.new.self.items) same c.in_ok-sort.ensures.stable;
    }
