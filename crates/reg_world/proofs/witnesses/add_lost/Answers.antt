use Rattle.std.proofs.Common.{arith}
use Rattle.std.proofs.lemmas.Grind.{common_steps}
use Rattle.reg_world.proofs.witnesses.add_lost.Goals as goal

pub loop-note-preserved : goal.loop-note-preserved
loop-note-preserved g c = grind (arith, common_steps)
