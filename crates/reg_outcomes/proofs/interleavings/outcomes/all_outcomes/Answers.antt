use Rattle.std.proofs.Common.{map}
use Rattle.reg_outcomes.proofs.interleavings.outcomes.all_outcomes.Goals as goal

pub returns-clause-outcomes : goal.returns-clause-outcomes
returns-clause-outcomes g c = c.in_ok-tell_last.ensures.outcomes (map (λ v. v.items) c.args.scripts.now) c.args.registers c.in_ok-last.ensures.layer
