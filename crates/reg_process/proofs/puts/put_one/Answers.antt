use Rattle.std.proofs.Common.{rules, arith}
use Rattle.std.proofs.lemmas.Grind.{common_steps}
use Rattle.reg_process.proofs.puts.put_one.Goals as goal

pub returns-then-to-me : goal.returns-then-to-me
returns-then-to-me g c = search rules

pub returns : goal.returns
returns g c = grind (arith, common_steps)
