use Rattle.reg_outcomes.proofs.Counting.{counted_other}
use Rattle.reg_outcomes.proofs.tables.tallies.Tallies.add_unfinished.Goals as goal

pub returns : goal.returns
returns g c plays s undone counted =
    counted_other (λ v. v.items) plays c.args.self.now.told c.args.self.now.unfinished s undone counted
