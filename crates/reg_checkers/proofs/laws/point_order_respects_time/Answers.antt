use Rattle.reg_checkers.proofs.RealTime.{stands_before as the_lemma}
use Rattle.reg_checkers.proofs.laws.point_order_respects_time.Goals as goal

pub returns : goal.returns
returns c = the_lemma
