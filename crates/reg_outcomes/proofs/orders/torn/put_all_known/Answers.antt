use Rattle.std.proofs.Common.{subst, sym}
use Rattle.reg_outcomes.specs.declared.orders.before.Before.{Before}
use Rattle.reg_outcomes.specs.Forced.{AreForced}
use Rattle.reg_outcomes.proofs.Forced.{own_comes}
use Rattle.reg_outcomes.proofs.orders.torn.put_all_known.Goals as goal
use Rattle.reg_outcomes.proofs.orders.torn.put_all_known.Goals.{then-knows_more+then-put_known}
use Rattle.reg_outcomes.proofs.orders.torn.put_all_known.Goals.{then-knows_more+else-put_known, else-knows_more}

pub loop-process-init : goal.loop-process-init
loop-process-init g c =
    let s = c.args.finder.now in
    c.raise-news.ensures s c.requires (λ m lt. own_comes s c.args.id.process m c.args.id.number lt)

pub loop-process-preserved : goal.loop-process-preserved
loop-process-preserved g c =
    let s = c.args.finder.now in
    elim c.if-knows_more.branch [
      | then-knows_more+then-put_known w ↦ subst (λ (b : Before g.row.A.Denot). AreForced s b) (sym w.before-is) w.put_known.ensures
      | then-knows_more+else-put_known w ↦ subst (λ (b : Before g.row.A.Denot). AreForced s b) (sym w.before-is) w.put_known.ensures
      | else-knows_more w ↦ subst (λ (b : Before g.row.A.Denot). AreForced s b) (sym w.before-is) c.loop-process.invariant
    ]
