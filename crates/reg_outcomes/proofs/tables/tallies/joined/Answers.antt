use Rattle.std.proofs.Common.{true, false}
use Rattle.reg_outcomes.specs.Counts.{finished_play}
use Rattle.reg_outcomes.proofs.Counting.{is_false, is_true, joined_tally}
use Rattle.reg_outcomes.proofs.tables.tallies.joined.Goals as goal

pub returns : goal.returns
returns c plays outcome told =
    let glance = c.args.glance in
    joined_tally plays (finished_play outcome glance) c.args.tally told c.shortest-events.result.0 c.shortest-events.result.1 c.first_of.result c.first_of-2.result (c.shortest-events.ensures outcome)
    (c.first_of.ensures true plays outcome (is_true glance.linearizable) told.in_time) (c.first_of-2.ensures false plays outcome (is_false glance.linearizable) told.late)
