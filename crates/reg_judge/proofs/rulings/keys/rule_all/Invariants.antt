use Rattle.reg_judge.specs.Rulings.{AreRuled}
use Rattle.reg_judge.proofs.rulings.keys.rule_all.Given as goal

abbrev pub invariant-loop-part : goal.invariant-loop-part
invariant-loop-part g l = AreRuled l.processes l.part-index l.rows l.rulings.items
