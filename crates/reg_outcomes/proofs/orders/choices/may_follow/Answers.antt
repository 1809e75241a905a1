use Rattle.std.proofs.Common.{sym, ◌∙◌}
use Rattle.reg_outcomes.proofs.Placed.{follows_by_call}
use Rattle.reg_outcomes.proofs.orders.choices.may_follow.Goals as goal

pub returns-in-Points : goal.returns-in-Points
returns-in-Points g c =
    let s = c.args.finder.now in
    follows_by_call s.kind s.shape.processes s.shape.registers s.entries c.requires.history c.args.next.now c.args.id c.args.fact.called c.args.fact.op (sym c.kind.ensures ∙ c.in-Points.is) c.requires.called c.are_placed_before.result c.are_placed_before.ensures
