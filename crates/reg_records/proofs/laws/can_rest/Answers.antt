use Rattle.reg_records.proofs.Able.{can_rest}
use Rattle.reg_records.proofs.laws.can_rest.Goals as goal

pub returns : goal.returns
returns c = λ start n registers events. can_rest start n registers events
