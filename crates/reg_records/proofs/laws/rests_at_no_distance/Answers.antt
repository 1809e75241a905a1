use Rattle.reg_records.proofs.AtRest.{rests_at_none}
use Rattle.reg_records.proofs.laws.rests_at_no_distance.Goals as goal

pub returns : goal.returns
returns c = λ start n registers events. rests_at_none start n registers events
