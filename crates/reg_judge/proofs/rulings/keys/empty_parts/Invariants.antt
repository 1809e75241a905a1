use Rattle.std.proofs.Common.{[]}
use Rattle.reg_judge.specs.Parting.{AreParts}
use Rattle.reg_judge.proofs.rulings.keys.empty_parts.Given as goal

abbrev pub invariant-loop-key : goal.invariant-loop-key
invariant-loop-key g l = AreParts l._key [] l.parts.items
