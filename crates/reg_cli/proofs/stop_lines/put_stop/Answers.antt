use Rattle.std.proofs.Common.{◌∷◌, []}
use Rattle.reg_text.proofs.Sent.{puts_two}
use Rattle.reg_cli.specs.StopLines.{stop_text}
use Rattle.reg_cli.proofs.stop_lines.put_stop.Goals as goal

pub returns : goal.returns
returns g c = puts_two g.W.Write.contents c.args.sink.now c.put_stop_text.new.sink c.put.new.self (stop_text c.args.stop) (10 ∷ []) c.put_stop_text.ensures c.put.ensures
