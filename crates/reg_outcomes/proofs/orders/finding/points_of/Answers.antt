use Rattle.std.proofs.Common.{arith}
use Rattle.std.proofs.lemmas.Option.{slice_get-get_or}
use Rattle.reg_base.specs.declared.memory.OpId.{OpId}
use Rattle.reg_outcomes.proofs.Pointing.{pointed, pointing_more, pointing_none}
use Rattle.reg_outcomes.proofs.orders.finding.points_of.Goals as goal

-- what a read past the end would give
abbrev blank : OpId
blank = record { process = 0; number = 0 }

pub loop-id-init : goal.loop-id-init
loop-id-init g c =
    pointing_none c.args.finder.now.entries c.args.ids.now c.in_ok-points.points.items c.in_ok-points.ensures.items

pub event_of_call-requires : goal.event_of_call-requires
event_of_call-requires g c = c.requires.called c.loop-id.id-index _ (slice_get-get_or c.args.ids.now c.loop-id.id-index blank c.loop-id-test.true)

pub loop-id-preserved : goal.loop-id-preserved
loop-id-preserved g c =
    let s = c.args.finder.now in
    let call = c.event_of_call.ensures in
    pointing_more s.shape.processes s.shape.registers s.entries c.requires.history c.args.ids.now c.loop-id.id-index c.loop-id.at c.loop-id.points.items c.loop-id.invariant _ (slice_get-get_or c.args.ids.now c.loop-id.id-index blank c.loop-id-test.true) c.event_of_call.result call.0 call.1 c.max-at.result c.max-at.ensures c.push.new.self.items c.in_ok-push.ensures.items

pub returns : goal.returns
returns g c = pointed c.args.finder.now.entries c.args.ids.now c.loop-id.id-index c.loop-id.at c.loop-id.points.items (let end = c.loop-id-test.false in omega (arith, end)) c.loop-id.invariant
