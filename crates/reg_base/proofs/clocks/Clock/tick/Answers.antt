use Rattle.std.proofs.Common.{rules}
use Rattle.reg_base.proofs.clocks.Clock.tick.Goals as goal

pub invariant_of-self : goal.invariant_of-self
invariant_of-self c = search rules

pub returns-clause-answer : goal.returns-clause-answer
returns-clause-answer c = search rules

pub returns-clause-after : goal.returns-clause-after
returns-clause-after c = search rules
