use Rattle.std.proofs.Common.{codes}
use Rattle.reg_text.proofs.Sent.{puts_two}
use Rattle.reg_outcomes.specs.AllText.{value_text}
use Rattle.reg_outcomes.proofs.values.put_told.Goals as goal

pub returns : goal.returns
returns g c = puts_two g.W.Write.contents c.args.sink.now c.put_value.new.sink c.put.new.self (value_text c.args.told) (codes "  ") c.put_value.ensures c.put.ensures
