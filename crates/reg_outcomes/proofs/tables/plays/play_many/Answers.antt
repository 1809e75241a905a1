use Rattle.reg_outcomes.proofs.tables.plays.play_many.Goals as goal

pub returns-clause-told : goal.returns-clause-told
returns-clause-told g c =
    let counted = c.in_ok-tallies.ensures.counted in
    record {
      seen = counted.0;
      known = counted.1;
      table = c.in_ok-rows.ensures counted.0 c.in_ok-tallies.tallies.unfinished counted.2;
      rest = counted.2.others;
      left = c.in_ok-undrawn.ensures counted.0 c.in_ok-tallies.tallies.unfinished counted.2;
    }
