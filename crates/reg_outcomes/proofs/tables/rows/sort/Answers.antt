use Rattle.std.proofs.Common.{rules}
use Rattle.reg_outcomes.proofs.Ordering.{lines_total, sorted_by}
use Rattle.reg_outcomes.proofs.tables.rows.sort.Goals as goal

pub returns-clause-sorted : goal.returns-clause-sorted
returns-clause-sorted g c = sorted_by lines_total _ c.sort_unstable_by.ensures.sorted (λ a r q k. search rules)
