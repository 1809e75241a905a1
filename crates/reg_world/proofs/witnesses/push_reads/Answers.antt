use Rattle.std.proofs.Common.{refl}
use Rattle.reg_world.proofs.code.Reading.{reads_stop, reads_more, reads_all}
use Rattle.reg_world.proofs.witnesses.push_reads.Goals as goal

pub loop-index-init : goal.loop-index-init
loop-index-init g c = record { rest = refl; added = refl }

pub returns-then-read-place : goal.returns-then-read-place
returns-then-read-place g c = reads_stop c.args.place c.args.reads.now c.args.ids.now.items c.loop-index.index c.loop-index.ids.items _ c.loop-index-test.true c.if-read-place.true c.loop-index.invariant

pub loop-index-preserved : goal.loop-index-preserved
loop-index-preserved g c = reads_more c.args.place c.args.reads.now c.args.ids.now.items c.loop-index.index c.loop-index.ids.items c.push.new.self.items _ c.loop-index-test.true c.if-read-place.false c.in_ok-push.ensures.items c.loop-index.invariant

pub returns : goal.returns
returns g c = reads_all c.args.place c.args.reads.now c.args.ids.now.items c.loop-index.index c.loop-index.ids.items c.loop-index-test.false c.loop-index.invariant
