use Rattle.std.proofs.Common.{ap}
use Rattle.reg_commands.proofs.Told.{all_serial_told}
use Rattle.reg_commands.proofs.verdicts.judge_order.Goals as goal

pub returns : goal.returns
returns g c = all_serial_told c.args.report.now c.history.result.now.shape.registers c.history.result.now.entries c.order.result.now c.check_serial.result c.verdict_of.result (ap (λ s. s.registers) c.history.ensures.shape) c.history.ensures.entries c.order.ensures c.check_serial.ensures c.verdict_of.ensures.tells
