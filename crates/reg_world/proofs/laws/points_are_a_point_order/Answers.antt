use Rattle.reg_world.proofs.witness.Points.{points_order}
use Rattle.reg_world.proofs.witness.Times.{laws_of}
use Rattle.reg_world.proofs.witness.Premises.{R, is_run}
use Rattle.reg_world.proofs.witness.Moments.{is_real_time}
use Rattle.reg_world.proofs.laws.points_are_a_point_order.Goals as goal

pub returns : goal.returns
returns c = λ start n registers events points all. points_order (R start n registers (laws_of start all) events) points (is_run start n registers (laws_of start all) events) (is_real_time start n registers all events)
