use Rattle.reg_trace.specs.Moments.{deliveries_of}
use Rattle.reg_trace.proofs.Behind.{one_delivered, all_delivered}
use Rattle.reg_trace.proofs.moments.deliveries.Goals as goal

pub loop-cast-preserved : goal.loop-cast-preserved
loop-cast-preserved g c =
    one_delivered c.loop-cast.delivered.items c.push.new.self.items (deliveries_of c.args.casts.now c.args.copy) c.loop-cast.copy c.deliver.new.copy c.args.casts.now c.loop-cast.cast-index _ c.deliver.result c.loop-cast-test.true
    c.deliver.ensures.cast c.deliver.ensures.value c.deliver.ensures.copy c.in_ok-push.ensures.items c.loop-cast.invariant

pub returns : goal.returns
returns g c = all_delivered c.loop-cast.delivered.items (deliveries_of c.args.casts.now c.args.copy) c.loop-cast.copy c.args.casts.now c.loop-cast.cast-index c.loop-cast-test.false c.loop-cast.invariant
