use Rattle.reg_world.proofs.witness.Serial.{witness_serial}
use Rattle.reg_world.proofs.witness.Premises.{R, is_run}
use Rattle.reg_world.proofs.laws.witness_is_serial.Goals as goal

pub returns : goal.returns
returns c = λ start n registers events ids laws. witness_serial (R start n registers laws events) ids (is_run start n registers laws events)
