use Rattle.std.proofs.Common.{◌≡◌, List, length, get_or, ap, subst, arith}
use Rattle.reg_world.specs.Members.{Standing}
use Rattle.reg_world.specs.Worlds.{Made}
use Rattle.reg_world.proofs.code.Answering.{process_told}
use Rattle.reg_world.proofs.witness.Promised.{rests}
use Rattle.reg_world.proofs.running.World.process.Goals as goal

pub returns-in-Some-clause-quiescent : goal.returns-in-Some-clause-quiescent
returns-in-Some-clause-quiescent g c = let m : Made = c.args.self.now in rests g.F.FrontEnd.start m.processes m.registers g.met.F.FrontEnd.lawful m.accepted

pub returns-in-None-clause-quiescent : goal.returns-in-None-clause-quiescent
returns-in-None-clause-quiescent g c = let m : Made = c.args.self.now in rests g.F.FrontEnd.start m.processes m.registers g.met.F.FrontEnd.lawful m.accepted

pub returns-in-Some-clause-process : goal.returns-in-Some-clause-process
returns-in-Some-clause-process g c =
    let found = c.in-Some.ensures.lookup in
    let members = c.deref.ensures.value in
    process_told g.F.FrontEnd.start g.met.F.FrontEnd.lawful c.self.inside.failed c.self.inside.book c.self.inside.members.items c.self.invariant c.args.self.now c.self.view_is c.args.process c.from.result c.in-Some.member.now c.process.result.now c.from.ensures
    (let l = found.3.0 in let z = ap length members in omega (arith, l, z)) (subst (λ (l : List Standing). c.in-Some.member.now ≡ get_or l c.from.result c.in-Some.member.now) members found.1) c.process.ensures.failed c.process.ensures.state

pub returns-in-None-clause-process : goal.returns-in-None-clause-process
returns-in-None-clause-process g c =
    let past = c.in-None.ensures.lookup.3 in
    let members = ap length c.deref.ensures.value in
    let size = c.self.invariant.size in
    let view = ap (λ (m : Made). m.processes) c.self.view_is in
    let from = c.from.ensures in
    omega (arith, past, members, size, view, from)
