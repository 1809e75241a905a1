use Rattle.reg_checkers.proofs.RealTime.{point_order_is_serial as the_lemma}
use Rattle.reg_checkers.proofs.laws.point_order_is_serial.Goals as goal

pub returns : goal.returns
returns c = the_lemma
