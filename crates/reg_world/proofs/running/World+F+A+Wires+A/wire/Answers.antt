use Rattle.std.proofs.Common.{◌≡◌, List, length, get_or, ap, subst, inl, arith}
use Rattle.reg_world.specs.Members.{Standing}
use Rattle.reg_world.specs.Worlds.{Made}
use Rattle.reg_world.proofs.code.Answering.{wire_told}
use Rattle.reg_world.proofs.running.World+F+A+Wires+A.wire.Goals as goal

pub returns-in-Some : goal.returns-in-Some
returns-in-Some g c =
    let found = c.in-Some.ensures.lookup in
    let members = c.deref.ensures.value in
    wire_told g.F.FrontEnd.start g.met.F.FrontEnd.lawful c.self.inside.failed c.self.inside.book c.self.inside.members.items c.self.invariant c.args.self.now c.self.view_is c.args.from c.args.to c.from-2.result c.in-Some.member.now c.wire.result.now c.from-2.ensures
    (let l = found.3.0 in let z = ap length members in omega (arith, l, z)) (subst (λ (l : List Standing). c.in-Some.member.now ≡ get_or l c.from-2.result c.in-Some.member.now) members found.1)
    (let l = c.if-from-len.false in let a = c.from.ensures in let b = c.len.ensures in let size = c.self.inside.members.ok.0 in omega (arith, l, a, b, size)) c.if-from-to.false c.wire.ensures

pub returns-in-None : goal.returns-in-None
returns-in-None g c =
    let past = c.in-None.ensures.lookup.3 in
    let members = ap length c.deref.ensures.value in
    let size = c.self.invariant.size in
    let view = ap (λ (m : Made). m.processes) c.self.view_is in
    let from = c.from-2.ensures in
    inl (omega (arith, past, members, size, view, from))
