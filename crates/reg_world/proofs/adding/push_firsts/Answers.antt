use Rattle.std.proofs.Common.{◌∙◌, refl, arith}
use Rattle.reg_world.proofs.code.Entering.{caster_at, differ_at, first_more}
use Rattle.reg_world.proofs.adding.push_firsts.Goals as goal

pub push_first-requires-clause-caster : goal.push_first-requires-clause-caster
push_first-requires-clause-caster g c = caster_at c.args.delivered.now c.loop-cast.cast-index _ c.loop-cast.callers.items c.args.callers.now.items c.requires.casters c.loop-cast.invariant.same (omega arith)

pub push_first-requires-clause-differ : goal.push_first-requires-clause-differ
push_first-requires-clause-differ g c = differ_at c.args.delivered.now c.loop-cast.cast-index _ c.loop-cast.callers.items c.args.callers.now.items c.requires.casters c.requires.differ c.loop-cast.invariant.same (omega arith)

pub loop-cast-preserved : goal.loop-cast-preserved
loop-cast-preserved g c =
    first_more c.args.at c.last_stamp-last.result c.args.delivered.now c.args.order.now.items c.args.callers.now.items c.loop-cast.callers.items c.push_first.new.callers.items c.loop-cast.cast-index _ c.loop-cast.order c.push_first.new.order (omega arith) c.loop-cast.invariant (c.push_first.ensures.same ∙ c.loop-cast.invariant.same) c.push_first.ensures.order
    (let few = c.push_first.ensures.few in let cap = c.push_first.ensures.capacity in let room = c.loop-cast.invariant.room in omega (arith, few, cap, room))

pub loop-cast-init : goal.loop-cast-init
loop-cast-init g c = record { same = refl; left = refl; room = (let room = c.requires.room in omega (arith, room)) }

pub push_first-requires-clause-room : goal.push_first-requires-clause-room
push_first-requires-clause-room g c =
    let room = c.loop-cast.invariant.room in omega (arith, room, c.loop-cast-test.true)

pub returns-clause-same : goal.returns-clause-same
returns-clause-same g c = c.loop-cast.invariant.same
