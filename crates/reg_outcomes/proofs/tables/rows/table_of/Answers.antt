use Rattle.std.proofs.Common.{List, subst}
use Rattle.std.specs.List.Sorted.{IsPermutation}
use Rattle.reg_outcomes.specs.PlayTables.{Line}
use Rattle.reg_outcomes.proofs.Lining.{is_table}
use Rattle.reg_outcomes.proofs.tables.rows.table_of.Goals as goal

pub returns : goal.returns
returns g c plays unfinished counted =
    is_table (λ k. k.items) plays c.args.told unfinished counted c.in_ok-rows.ensures.ordered c.sort.new.rows.items
    (subst (λ (l : List Line). IsPermutation l c.sort.new.rows.items) c.in_ok-rows.ensures.lines c.sort.ensures.same) c.sort.ensures.sorted
