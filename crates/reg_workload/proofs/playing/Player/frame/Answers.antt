use Rattle.std.proofs.Common.{arith}
use Rattle.std.proofs.lemmas.Grind.{elements}
use Rattle.reg_workload.proofs.playing.Player.frame.Goals as goal

pub returns-then-cursor-count-clause-value : goal.returns-then-cursor-count-clause-value
returns-then-cursor-count-clause-value g c = grind (arith, elements)

pub returns-then-cursor-count-clause-next : goal.returns-then-cursor-count-clause-next
returns-then-cursor-count-clause-next g c = grind (arith, elements)
