use Rattle.std.proofs.Common.{◌∷◌, []}
use Rattle.reg_text.proofs.Sent.{puts_two}
use Rattle.reg_outcomes.specs.AllText.{values_text}
use Rattle.reg_outcomes.proofs.interleavings.text.put_never.Goals as goal

pub returns : goal.returns
returns g c = puts_two g.W.Write.contents c.args.sink.now c.put_values.new.sink c.put.new.self (values_text c.args.values.now) (10 ∷ []) c.put_values.ensures c.put.ensures
