use Rattle.std.proofs.Common.{w64, arith}
use Rattle.std.proofs.lemmas.Nat.{le_or_l}
use Rattle.std.proofs.lemmas.Nat.Bits.{bit_at_set_same, bit_at_set_other}
use Rattle.reg_outcomes.proofs.orders.tried.with.Goals as goal

pub returns-clause-more : goal.returns-clause-more
returns-clause-more c = le_or_l c.args.set _

pub returns-clause-here : goal.returns-clause-here
returns-clause-here c = bit_at_set_same w64 c.args.set c.args.process (omega arith)

pub returns-clause-others : goal.returns-clause-others
returns-clause-others c = λ q apart. bit_at_set_other w64 c.args.set c.args.process (omega arith) q apart
