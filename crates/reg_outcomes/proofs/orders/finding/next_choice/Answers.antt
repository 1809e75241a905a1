use Rattle.std.proofs.Common.{arith}
use Rattle.reg_outcomes.proofs.Searching.{known}
use Rattle.reg_outcomes.proofs.orders.finding.next_choice.Goals as goal

pub returns-then-loses_value : goal.returns-then-loses_value
returns-then-loses_value g c = c.loses_value.ensures c.if-loses_value.true

pub returns-then-has : goal.returns-then-has
returns-then-has g c = known c.args.finder.now c.requires.history c.args.walk.now c.args.failed.now c.requires.search c.len.result (let is = c.len.ensures in let ok = c.args.walk.now.path.ok.0 in omega (arith, is, ok)) (c.has.ensures c.if-has.true)
