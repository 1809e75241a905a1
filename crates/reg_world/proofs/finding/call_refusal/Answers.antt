use Rattle.std.proofs.Common.{arith, rules}
use Rattle.std.proofs.lemmas.Grind.{common_steps}
use Rattle.reg_world.proofs.finding.call_refusal.Goals as goal

pub returns-then-from-callers : goal.returns-then-from-callers
returns-then-from-callers g c = search rules

pub returns-then-runs : goal.returns-then-runs
returns-then-runs g c = grind (arith, common_steps)

pub returns-then-from-registers : goal.returns-then-from-registers
returns-then-from-registers g c = grind (arith, common_steps)

pub returns-then-calls-ge-MOST_OPERATIONS : goal.returns-then-calls-ge-MOST_OPERATIONS
returns-then-calls-ge-MOST_OPERATIONS g c = grind (arith, common_steps)

pub returns : goal.returns
returns g c = grind (arith, common_steps)
