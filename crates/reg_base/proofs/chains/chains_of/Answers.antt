use Rattle.std.proofs.Common.{arith}
use Rattle.reg_base.specs.Names.{texts}
use Rattle.reg_base.proofs.ChainsLaws.{none_yet, is_repeat, is_new, so_far, all_chained}
use Rattle.reg_base.proofs.chains.chains_of.Goals as goal

pub loop-place-init : goal.loop-place-init
loop-place-init g c = none_yet (texts c.args.names.now)

pub find-requires-clause-chains : goal.find-requires-clause-chains
find-requires-clause-chains g c = so_far c.args.names.now c.loop-place.place c.loop-place.chains.heads c.loop-place.chains.earlier c.loop-place.invariant

pub returns-then-is_some : goal.returns-then-is_some
returns-then-is_some g c =
    is_repeat c.args.names.now c.loop-place.place c.loop-place.chains.heads c.loop-place.chains.earlier c.index-names-place.result c.as_bytes-name.result.now c.find.result c.loop-place.invariant c.loop-place-test.true c.index-names-place.is c.as_bytes-name.ensures.value c.find.ensures.some (cc)

pub loop-place-preserved : goal.loop-place-preserved
loop-place-preserved g c =
    is_new c.args.names.now c.loop-place.place c.loop-place.chains.heads c.loop-place.chains.earlier c.add.new.self.heads c.add.new.self.earlier c.index-names-place.result c.as_bytes-name.result.now c.find.result c.loop-place.invariant c.loop-place-test.true c.requires c.index-names-place.is c.as_bytes-name.ensures.value c.find.ensures.none (cc) c.add.ensures.heads c.add.ensures.earlier

pub returns : goal.returns
returns g c = all_chained c.args.names.now c.loop-place.place c.loop-place.chains.heads c.loop-place.chains.earlier c.loop-place.invariant (omega arith)
