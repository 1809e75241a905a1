use Rattle.reg_judge.proofs.Renaming.{order_there, turned_alike}
use Rattle.reg_judge.proofs.laws.names_change_no_order.Goals as goal

pub returns : goal.returns
returns c = λ n m r q one other fits fit are. (order_there n m r q one other fits fit are, order_there m n q r other one fit fits (turned_alike r q one other are))
