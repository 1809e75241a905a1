use Rattle.reg_judge.proofs.Keying.{ArePartsFrom}
use Rattle.reg_judge.proofs.rulings.keys.parts_of.Given as goal

abbrev pub invariant-loop-row : goal.invariant-loop-row
invariant-loop-row g l = ArePartsFrom l.keys l.row-index l.rows l.parts.items
