use Rattle.reg_outcomes.proofs.InTime.{at_get, place_step}
use Rattle.reg_outcomes.proofs.tables.timing.places.Goals as goal

pub loop-place-preserved : goal.loop-place-preserved
loop-place-preserved g c =
    place_step c.args.order.now c.loop-place.place _ c.loop-place.places c.insert.new.self c.in_ok-insert.ensures.updates (at_get c.args.order.now c.loop-place.place _ c.loop-place-test.true) c.loop-place.invariant
