use Rattle.std.proofs.Common.{length, ap, arith}
use Rattle.reg_world.specs.Worlds.{Made}
use Rattle.reg_world.proofs.code.Answering.{few_accepted}
use Rattle.reg_world.proofs.running.World.events.Goals as goal

pub overflow_cast-result : goal.overflow_cast-result
overflow_cast-result g c =
    let few = few_accepted g.F.FrontEnd.start g.met.F.FrontEnd.lawful c.self.inside.failed c.self.inside.book c.self.inside.members.items c.self.invariant in
    let same = ap length c.accepted.ensures in
    record { fits = omega (arith, few, same) }

pub returns-clause-few : goal.returns-clause-few
returns-clause-few g c =
    let few = few_accepted g.F.FrontEnd.start g.met.F.FrontEnd.lawful c.self.inside.failed c.self.inside.book c.self.inside.members.items c.self.invariant in
    let same = ap length c.accepted.ensures in
    omega (arith, few, same)

pub returns-clause-value : goal.returns-clause-value
returns-clause-value g c = let same = ap length c.accepted.ensures in let view = ap (λ (m : Made). length m.accepted) c.self.view_is in omega (arith, same, view)
