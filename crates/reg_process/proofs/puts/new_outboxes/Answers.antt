use Rattle.reg_process.proofs.Outs.{fresh_outs}
use Rattle.reg_process.proofs.puts.new_outboxes.Goals as goal

pub returns : goal.returns
returns g c = fresh_outs c.args.me c.args.count c.new.result c.new.ensures
