use Rattle.std.proofs.Common.{arith}
use Rattle.reg_records.proofs.Few.{wires_fit}
use Rattle.reg_records.proofs.resting.frame_count.Goals as goal

pub overflow_cast-result : goal.overflow_cast-result
overflow_cast-result g c =
    let w = c.args.world.now in
    let few = wires_fit g.F.FrontEnd.start w.processes w.registers w.accepted c.args.from c.args.to in
    let is = c.in-Some.ensures.3 c.requires.on.going in
    omega (arith, few, is)
