use Rattle.std.proofs.Common.{◌∷◌, []}
use Rattle.reg_text.proofs.Sent.{puts_two}
use Rattle.reg_judge.specs.Faults.{rule_text}
use Rattle.reg_judge.proofs.rulings.faults.put_rule.Goals as goal

pub returns : goal.returns
returns g c = puts_two g.W.Write.contents c.args.sink.now c.put_text.new.sink c.put.new.self (rule_text c.args.fault) (10 ∷ []) c.put_text.ensures c.put.ensures
