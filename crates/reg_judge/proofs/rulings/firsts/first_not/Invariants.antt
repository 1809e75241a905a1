use Rattle.reg_judge.specs.Firsts.{IsFirstTo}
use Rattle.reg_judge.proofs.rulings.firsts.first_not.Given as goal

abbrev pub invariant-loop-ruling : goal.invariant-loop-ruling
invariant-loop-ruling l = IsFirstTo l.ruling-index l.rulings l.found
