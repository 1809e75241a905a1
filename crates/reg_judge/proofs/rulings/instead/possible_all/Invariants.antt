use Rattle.reg_judge.proofs.Telling.{AreToldTo}
use Rattle.reg_judge.proofs.rulings.instead.possible_all.Given as goal

abbrev pub invariant-loop-key : goal.invariant-loop-key
invariant-loop-key g l = AreToldTo l.key l.processes l.rows l.rulings l.told.items
