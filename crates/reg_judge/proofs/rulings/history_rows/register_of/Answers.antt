use Rattle.std.proofs.Common.{sym, ◌∙◌}
use Rattle.reg_judge.proofs.rulings.history_rows.register_of.Goals as goal

pub returns : goal.returns
returns g c = λ h table.
    let fact = table.facts c.args.id c.in_ok-fact.fact (sym c.fact_of.ensures ∙ c.in_ok-fact.was) in
    (c.in_ok-fact.fact.called, c.in_ok-fact.fact.op, fact.called, c.register.ensures)
