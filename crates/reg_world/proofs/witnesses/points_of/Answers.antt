use Rattle.std.proofs.Common.{◌∙◌, map, ap, arith}
use Rattle.std.specs.List.{filter}
use Rattle.std.proofs.lemmas.List.{take_all}
use Rattle.reg_world.specs.Witnesses.{is_kept, point_of}
use Rattle.std.proofs.lemmas.Grind.{common_steps}
use Rattle.reg_world.proofs.witnesses.points_of.Goals as goal

pub loop-first-preserved : goal.loop-first-preserved
loop-first-preserved g c = grind (arith, common_steps)

pub loop-first-init : goal.loop-first-init
loop-first-init g c = c.new-points.ensures.items

pub returns : goal.returns
returns g c = c.loop-first.invariant ∙ ap (λ l. map point_of (filter (is_kept c.args.callers.now) l)) (take_all c.loop-first.first-index c.args.order.now c.loop-first-test.false)
