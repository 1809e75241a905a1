use Rattle.std.proofs.Common.{drop, map, refl, take}
use Rattle.std.specs.Prelude.{slice_index}
use Rattle.reg_world.specs.World.{delivered_of}
use Rattle.reg_world.specs.Worlds.{run_in}
use Rattle.reg_trace.proofs.Behind.{told_is}
use Rattle.reg_trace.proofs.moments.tell.Goals as goal

pub returns-clause-told : goal.returns-clause-told
returns-clause-told g c =
    let before = c.delivered_count-before.result in
    let behind = c.delivered_count-after.result in
    let casts = drop before (take behind (map delivered_of (run_in g.F.FrontEnd.start c.step_reply.new.self).order)) in
    told_is g.F.FrontEnd.start c.args.world.now c.args.event.now c.step_reply.new.self c.process_of_event-process.result c.frame_of-frame.result c.expected_of.result c.unexpected-expected.result c.clock_of-clock.result c.in-Ok.copy casts c.in-Ok-delivered_between.delivered.items c.in_ok-reply.reply c.in-Ok-waits_in.waits.items c.in-Ok-sent_since.sent.items before behind (slice_index c.lengths-lengths.result)
    c.in_ok-reply.ensures.made.0.after c.process_of_event-process.ensures c.frame_of-frame.ensures c.expected_of.ensures c.unexpected-expected.ensures c.clock_of-clock.ensures c.delivered_count-before.ensures c.delivered_count-after.ensures refl c.in-Ok.ensures c.in-Ok-delivered_between.ensures c.in_ok-reply.ensures.made.1 c.lengths-lengths.ensures c.in-Ok-waits_in.ensures c.in-Ok-sent_since.ensures
