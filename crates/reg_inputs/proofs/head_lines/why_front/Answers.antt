use Rattle.std.proofs.Common.{rules}
use Rattle.reg_inputs.proofs.head_lines.why_front.Goals as goal

pub returns-then-are_front_letters : goal.returns-then-are_front_letters
returns-then-are_front_letters c = search rules
