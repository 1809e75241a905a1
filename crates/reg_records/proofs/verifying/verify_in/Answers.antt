use Rattle.std.proofs.Common.{length, map}
use Rattle.reg_records.proofs.Turns.{history_of}
use Rattle.reg_records.proofs.verifying.verify_in.Goals as goal

pub first_untold-requires-clause-history : goal.first_untold-requires-clause-history
first_untold-requires-clause-history g c =
    history_of g.F.FrontEnd.start c.args.shape c.args.order.now (map (λ v. v.items) c.args.logs.now) (length c.args.order.now) c.in_ok-world.world c.in_ok-world.ensures.plays c.history.result.now c.entries.result.now c.history.ensures.shape c.entries.ensures.in_place c.entries.ensures.value

pub returns-in-Some : goal.returns-in-Some
returns-in-Some g c = record {
  world = c.in_ok-world.world;
  faithful = c.in_ok-world.ensures;
  untold = rw (c.entries.ensures.value, c.history.ensures.value) at c.in-Some.ensures;
}
