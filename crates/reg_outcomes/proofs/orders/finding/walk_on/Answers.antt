use Rattle.std.proofs.Common.{subst}
use Rattle.reg_outcomes.specs.declared.orders.finding.Turn.{Turn}
use Rattle.reg_outcomes.specs.Searching.{IsTurned}
use Rattle.reg_outcomes.proofs.orders.finding.walk_on.Goals as goal

pub returns-in-Complete-clause-placed : goal.returns-in-Complete-clause-placed
returns-in-Complete-clause-placed g c = subst (λ (t : Turn). IsTurned c.args.finder.now c.turns.walk c.go_on.new.walk c.go_on.new.failed t) c.in-Complete.is c.in_ok-go_on.ensures.turned

pub returns-in-Over-clause-placed : goal.returns-in-Over-clause-placed
returns-in-Over-clause-placed g c = subst (λ (t : Turn). IsTurned c.args.finder.now c.turns.walk c.go_on.new.walk c.go_on.new.failed t) c.in-Over.is c.in_ok-go_on.ensures.turned
