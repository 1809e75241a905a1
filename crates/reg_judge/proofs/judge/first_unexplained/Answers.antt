use Rattle.std.proofs.Common.{ap, length}
use Rattle.reg_judge.proofs.Narrowing.{first_bounds, found_bounds}
use Rattle.reg_judge.proofs.judge.first_unexplained.Goals as goal

pub narrow-init : goal.narrow-init
narrow-init g c = first_bounds c.args.history.now.shape.registers c.args.history.now.entries _ c.in_ok-explained.ensures (ap length c.entries.ensures.value) c.requires.none

pub returns-clause-found : goal.returns-clause-found
returns-clause-found g c =
    let shape = c.args.history.now.shape in
    found_bounds shape.processes shape.registers c.args.history.now.entries c.entries.ensures.in_place c.narrow.bounds c.narrow-test.false c.narrow.invariant
