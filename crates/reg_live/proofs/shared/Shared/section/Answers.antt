use Rattle.std.proofs.Common.{rules}
use Rattle.reg_live.proofs.shared.Shared.section.Goals as goal

pub returns-then-ends-clause-floor : goal.returns-then-ends-clause-floor
returns-then-ends-clause-floor g c = c.section-made.ensures.floor

pub returns-else-ends-clause-floor : goal.returns-else-ends-clause-floor
returns-else-ends-clause-floor g c = c.section-made.ensures.floor

pub returns-then-ends-clause-own : goal.returns-then-ends-clause-own
returns-then-ends-clause-own g c = search rules

pub returns-else-ends-clause-own : goal.returns-else-ends-clause-own
returns-else-ends-clause-own g c = search rules
