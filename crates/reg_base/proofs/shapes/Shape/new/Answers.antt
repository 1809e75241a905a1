use Rattle.std.proofs.Common.{rules}
use Rattle.reg_base.proofs.shapes.Shape.new.Goals as goal

pub returns-then-registers-eq0 : goal.returns-then-registers-eq0
returns-then-registers-eq0 c = search rules

pub returns-then-registers-gt-MOST_REGISTERS : goal.returns-then-registers-gt-MOST_REGISTERS
returns-then-registers-gt-MOST_REGISTERS c = search rules

pub invariant_of-result : goal.invariant_of-result
invariant_of-result c = search rules

pub returns : goal.returns
returns c = search rules
