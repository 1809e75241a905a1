use Rattle.std.proofs.Common.{refl}
use Rattle.reg_outcomes.specs.Counts.{finished_play}
use Rattle.reg_outcomes.proofs.Counting.{counted_next}
use Rattle.reg_outcomes.proofs.tables.tallies.Tallies.add.Goals as goal

pub returns : goal.returns
returns g c plays counted =
    let s = finished_play c.args.outcome.items c.args.glance in
    counted_next (λ v. v.items) plays c.args.self.now.told c.insert.new.self c.args.self.now.unfinished c.args.outcome s c.next-tally.result refl refl c.in_ok-insert.ensures.updates (c.next-tally.ensures plays) counted
