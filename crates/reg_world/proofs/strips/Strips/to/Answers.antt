use Rattle.std.proofs.Common.{List, [], length, ap, sym, subst, arith}
use Rattle.std.proofs.lemmas.List.{length-map, get_or_past}
use Rattle.reg_world.specs.Sharing.{Strip, AreInCommon, items_in}
use Rattle.reg_world.proofs.Sharing.{shared_at, items_found}
use Rattle.reg_world.proofs.strips.Strips.to.Goals as goal

pub items-requires : goal.items-requires
items-requires g c =
    let found = c.in-Some.ensures.lookup in
    let common = c.self.inside.common.items in
    let all = subst (λ (l : List (Strip g.row.T.Denot)). AreInCommon common l) (sym c.deref.ensures.value) c.self.invariant in
    let few = shared_at common c.deref.result.now c.args.to c.in-Some.line.now found.3.0 found.1 all in
    let same = ap length c.deref-in-Some.ensures.value in
    omega (arith, few, same)

pub returns-in-Some : goal.returns-in-Some
returns-in-Some g c =
    let found = c.in-Some.ensures.lookup in
    items_found c.self.inside.common.items c.deref-in-Some.result.now c.self.inside.lines.items c.deref.result.now c.args.self.now c.args.to c.in-Some.line.now c.items.result.now c.self.view_is c.deref-in-Some.ensures.value c.deref.ensures.value found.3.0 found.1 c.items.ensures

pub returns-in-None : goal.returns-in-None
returns-in-None g c =
    let past = c.in-None.ensures.lookup.3 in
    let wires = ap length c.deref.ensures.value in
    let size = length-map c.self.inside.lines.items (items_in c.self.inside.common.items) in
    let view = ap length c.self.view_is in
    sym (get_or_past c.args.self.now c.args.to [] (omega (arith, past, wires, size, view)))
