use Rattle.std.proofs.Common.{ap, ◌∙◌, take_all}
use Rattle.reg_outcomes.specs.Walking.{ids_of}
use Rattle.reg_outcomes.proofs.orders.walk.Walk.ids.Goals as goal

pub returns : goal.returns
returns g c = c.loop-step.invariant ∙ (ap ids_of (take_all c.loop-step.step-index c.deref-step-items.result.now c.loop-step-test.false) ∙ ap ids_of c.deref-step-items.ensures.value)
