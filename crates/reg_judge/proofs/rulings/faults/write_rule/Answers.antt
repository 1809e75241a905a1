use Rattle.std.proofs.Common.{◌∷◌, ◌++◌, [], rules}
use Rattle.reg_judge.specs.Faults.{rule_text}
use Rattle.reg_text.proofs.Sent.{went_out}
use Rattle.reg_judge.proofs.rulings.faults.write_rule.Goals as goal

pub returns : goal.returns
returns g c =
    went_out g.W.Write.contents c.new-sink.result c.put_rule.new.sink c.args.errors.now _ (rule_text c.args.fault ++ 10 ∷ []) c.finish.result c.new-sink.ensures.failed c.new-sink.ensures.now (search rules) c.put_rule.ensures c.finish.ensures
