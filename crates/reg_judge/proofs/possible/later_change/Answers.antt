use Rattle.reg_judge.proofs.Trying.{change_since}
use Rattle.reg_judge.proofs.possible.later_change.Goals as goal

pub returns-in-Some : goal.returns-in-Some
returns-in-Some g c = λ h table before. change_since c.args.rows.now h c.in-Called.id c.args.event c.in-Some.called table c.in-Some.ensures
