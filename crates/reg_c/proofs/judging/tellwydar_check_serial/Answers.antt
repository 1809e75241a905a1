use Rattle.std.proofs.Common.{rules}
use Rattle.reg_c.proofs.judging.tellwydar_check_serial.Goals as goal

pub returns : goal.returns
returns c = search rules
