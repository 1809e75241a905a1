use Rattle.std.proofs.Common.{◌++◌, ◌∷◌, []}
use Rattle.std.specs.Fmt.{decimal}
use Rattle.reg_text.proofs.Sent.{puts_two}
use Rattle.reg_outcomes.proofs.values.put_count.Goals as goal

pub returns : goal.returns
returns g c = puts_two g.W.Write.contents c.args.sink.now c.put_number.new.sink c.put.new.self (c.args.mark.now ++ decimal c.args.number) (10 ∷ []) c.put_number.ensures c.put.ensures
