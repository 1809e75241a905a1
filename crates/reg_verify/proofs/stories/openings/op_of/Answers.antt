use Rattle.std.proofs.Common.{sym, ◌∙◌}
use Rattle.reg_verify.proofs.Opened.{not_called, within_registers}
use Rattle.reg_verify.proofs.stories.openings.op_of.Goals as goal

pub unreachable-requires : goal.unreachable-requires
unreachable-requires g c = not_called c.args.report.now.entries c.args.facts.now c.args.id c.requires.table (sym c.fact_of.ensures ∙ c.in-None.is) c.requires.called

pub returns-clause-called : goal.returns-clause-called
returns-clause-called g c = let f = c.requires.table.facts c.args.id c.in-Some.fact (sym c.fact_of.ensures ∙ c.in-Some.is) in (c.in-Some.fact.called, f.called)

pub returns-clause-within : goal.returns-clause-within
returns-clause-within g c =
    let r = c.args.report.now in
    within_registers r.shape.processes r.shape.registers r.entries c.args.facts.now c.args.id c.in-Some.fact c.history-history.ensures.report.history c.requires.table (sym c.fact_of.ensures ∙ c.in-Some.is)
