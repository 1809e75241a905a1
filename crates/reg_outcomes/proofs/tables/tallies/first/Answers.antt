use Rattle.std.proofs.Common.{[], true, false}
use Rattle.reg_outcomes.specs.Counts.{finished_play}
use Rattle.reg_outcomes.proofs.Counting.{first_none, first_tally, is_false, is_true}
use Rattle.reg_outcomes.proofs.tables.tallies.first.Goals as goal

pub returns : goal.returns
returns c outcome =
    let glance = c.args.glance in
    first_tally (finished_play outcome glance) c.first_of.result c.first_of-2.result
    (c.first_of.ensures true [] outcome (is_true glance.linearizable) (first_none true)) (c.first_of-2.ensures false [] outcome (is_false glance.linearizable) (first_none false))
