use Rattle.std.proofs.Common.{codes}
use Rattle.reg_text.proofs.Sent.{puts_two}
use Rattle.reg_outcomes.specs.AllText.{value_text}
use Rattle.reg_outcomes.proofs.interleavings.text.put_behind.Goals as goal

pub returns : goal.returns
returns g c = puts_two g.W.Write.contents c.args.sink.now c.put.new.self c.put_value.new.sink (codes "  ") (value_text c.args.value) c.put.ensures c.put_value.ensures
