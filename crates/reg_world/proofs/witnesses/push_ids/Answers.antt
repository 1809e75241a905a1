use Rattle.std.proofs.Common.{◌∙◌, ◌++◌, sym, ap}
use Rattle.std.proofs.lemmas.List.{take_all, append-nil}
use Rattle.reg_world.proofs.code.Reading.{ids_read, read_more}
use Rattle.reg_world.proofs.witnesses.push_ids.Goals as goal

pub loop-operation-init : goal.loop-operation-init
loop-operation-init g c = sym (append-nil c.args.ids.now.items)

pub loop-operation-preserved : goal.loop-operation-preserved
loop-operation-preserved g c = read_more c.args.ranked.now c.loop-operation.operation-index _ c.args.ids.now.items c.loop-operation.ids.items c.push.new.self.items c.loop-operation-test.true c.loop-operation.invariant c.in_ok-push.ensures.items

pub returns : goal.returns
returns g c = c.loop-operation.invariant ∙ ap (λ l. c.args.ids.now.items ++ ids_read l) (take_all c.loop-operation.operation-index c.args.ranked.now c.loop-operation-test.false)
