use Rattle.std.proofs.Common.{rules}
use Rattle.reg_reasons.proofs.refusals.refused_or_halted.Goals as goal

pub returns-then-not-is_of_text-clause-kind : goal.returns-then-not-is_of_text-clause-kind
returns-then-not-is_of_text-clause-kind g c = search rules
