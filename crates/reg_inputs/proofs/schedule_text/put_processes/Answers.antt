use Rattle.std.proofs.Common.{◌∷◌, ◌++◌, [], codes}
use Rattle.std.specs.Fmt.{decimal}
use Rattle.reg_text.proofs.Sent.{puts_two}
use Rattle.reg_inputs.proofs.schedule_text.put_processes.Goals as goal

pub returns : goal.returns
returns g c = puts_two g.W.Write.contents c.args.sink.now c.put_number.new.sink c.put.new.self (codes "processes " ++ decimal c.args.processes) (10 ∷ []) c.put_number.ensures c.put.ensures
