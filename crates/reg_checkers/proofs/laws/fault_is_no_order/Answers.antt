use Rattle.reg_checkers.proofs.NoOrder.{fault_not_serial, fault_not_points}
use Rattle.reg_checkers.proofs.laws.fault_is_no_order.Goals as goal

pub returns-clause-serial : goal.returns-clause-serial
returns-clause-serial c = fault_not_serial

pub returns-clause-points : goal.returns-clause-points
returns-clause-points c = fault_not_points
