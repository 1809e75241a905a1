use Rattle.reg_world.proofs.witness.OwnTime.{own_time}
use Rattle.reg_world.proofs.laws.serial_order_keeps_own_time.Goals as goal

pub returns : goal.returns
returns c = own_time
