use Rattle.std.proofs.Common.{◌≡◌, ◌∙◌, List, [], length, get_or, refl, ap, subst, inl, arith}
use Rattle.reg_world.specs.Members.{Standing}
use Rattle.reg_world.specs.Worlds.{Made, IsWire}
use Rattle.reg_world.proofs.code.Answering.{wire_told}
use Rattle.reg_world.proofs.running.World.frame_count.Goals as goal

pub returns-in-Some : goal.returns-in-Some
returns-in-Some g c =
    let found = c.in-Some.ensures.lookup in
    let members = c.deref.ensures.value in
    let s : Standing = c.in-Some.member.now in
    let t : IsWire g.F.FrontEnd.start c.args.self.now c.args.from c.args.to (get_or s.wires c.args.to []) =
    wire_told g.F.FrontEnd.start g.met.F.FrontEnd.lawful c.self.inside.failed c.self.inside.book c.self.inside.members.items c.self.invariant c.args.self.now c.self.view_is c.args.from c.args.to c.from-2.result s (get_or s.wires c.args.to []) c.from-2.ensures
    (let l = found.3.0 in let z = ap length members in omega (arith, l, z)) (subst (λ (l : List Standing). s ≡ get_or l c.from-2.result s) members found.1)
    (let l = c.if-from-len.false in let a = c.from.ensures in let b = c.len.ensures in let size = c.self.inside.members.ok.0 in omega (arith, l, a, b, size)) c.if-from-to.false refl in
    (t.0, t.1, t.2, λ f. c.count.ensures ∙ ap (length) (t.3 f))

pub returns-in-None : goal.returns-in-None
returns-in-None g c =
    let past = c.in-None.ensures.lookup.3 in
    let members = ap length c.deref.ensures.value in
    let size = c.self.invariant.size in
    let view = ap (λ (m : Made). m.processes) c.self.view_is in
    let from = c.from-2.ensures in
    inl (omega (arith, past, members, size, view, from))
