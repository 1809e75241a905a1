use Rattle.reg_checkers.proofs.Histories.{behind_all, behind_last}
use Rattle.reg_checkers.proofs.laws.later_than_the_last_is_later_than_all.Goals as goal

pub returns : goal.returns
returns c = λ n registers h good at. (behind_last n registers h good at, behind_all n registers h good at)
