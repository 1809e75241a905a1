use Rattle.reg_judge.proofs.Fronts.{front_has}
use Rattle.reg_judge.proofs.laws.first_parts_have_orders.Goals as goal

pub returns : goal.returns
returns c = λ n registers count h good order. front_has n registers h good count order
