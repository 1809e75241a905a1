use Rattle.reg_outcomes.proofs.Known.{none_forced}
use Rattle.reg_outcomes.proofs.orders.torn.outlook_of.Goals as goal

pub is_torn-requires-clause-forced : goal.is_torn-requires-clause-forced
is_torn-requires-clause-forced g c = none_forced c.args.finder.now c.in_ok-before.before c.in_ok-before.ensures

pub returns-then-is_torn : goal.returns-then-is_torn
returns-then-is_torn g c = c.is_torn.ensures.torn c.if-is_torn.true
