use Rattle.std.proofs.Common.{◌≡◌, Some, ap, sym, ◌∙◌}
use Rattle.reg_checkers.specs.Table.{Rows, cell}
use Rattle.reg_checkers.proofs.Marking.{mark_step}
use Rattle.reg_checkers.proofs.marks.mark.Goals as goal

pub returns-else-fact : goal.returns-else-fact
returns-else-fact g c =
    let was : cell c.args.rows.now.items c.args.id ≡ Some c.in-Some.fact = ap (λ (r : Rows _). cell r c.args.id) (sym c.deref.ensures.value) ∙ sym c.in-Some.ensures in
    mark_step c.args.rows.now.items c.set_fact.new.rows.items c.args.id c.in-Some.fact was c.if-fact.false c.set_fact.ensures.changed
