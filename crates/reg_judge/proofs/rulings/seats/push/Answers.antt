use Rattle.reg_judge.proofs.Seating.{stays_log}
use Rattle.reg_judge.proofs.rulings.seats.push.Goals as goal

pub returns-in-Ok-clause-log : goal.returns-in-Ok-clause-log
returns-in-Ok-clause-log g c = stays_log c.args.history.now c.push.new.self c.args.entry c.in-Ok.ensures
