use Rattle.std.proofs.lemmas.Option.{slice_get-get_or}
use Rattle.reg_node.proofs.Remaking.{replayed_more}
use Rattle.reg_node.proofs.replaying.replay.Goals as goal

pub loop-place-preserved : goal.loop-place-preserved
loop-place-preserved g c =
    let made = rw c.in-Ok-true.field-0-test at c.in-Ok-true.ensures in
    replayed_more g.F.FrontEnd.start c.args.process.now.state c.args.entries.now c.loop-place.place _ c.loop-place.process c.remake.new.process
    (slice_get-get_or c.args.entries.now c.loop-place.place _ c.loop-place-test.true) c.loop-place-test.true c.loop-place.invariant made
