use Rattle.reg_judge.proofs.Locality.{all_together, each_by_itself}
use Rattle.reg_judge.proofs.laws.point_order_is_local.Goals as goal

pub returns : goal.returns
returns c = λ n registers h good. (each_by_itself n registers h good, all_together n registers h good)
