use Rattle.std.proofs.Common.{List, [], map, replicate, ap, sym, subst, ◌∙◌}
use Rattle.reg_world.specs.Sharing.{Strip, AreInCommon, items_in, no_items}
use Rattle.reg_world.proofs.Sharing.{no_wires, none_shared}
use Rattle.reg_world.proofs.strips.Strips.new.Goals as goal

pub returns : goal.returns
returns g c =
    ap (map (items_in c.new-common.result.items)) c.in_ok-lines.ensures
    ∙ (ap (λ common. map (items_in common) (replicate c.args.count no_items)) c.new-common.ensures.items
    ∙ no_wires c.args.count)

pub invariant_of-result : goal.invariant_of-result
invariant_of-result g c =
    subst (λ (l : List g.row.T.Denot). AreInCommon l c.in_ok-lines.lines.items) (sym c.new-common.ensures.items)
    (subst (λ (strips : List (Strip g.row.T.Denot)). AreInCommon [] strips) (sym c.in_ok-lines.ensures) (none_shared g.row.T.Denot c.args.count))
