use Rattle.std.proofs.Common.{sym, ◌∙◌}
use Rattle.reg_verify.proofs.Opened.{called_as, not_called}
use Rattle.reg_verify.proofs.stories.openings.was_called_as.Goals as goal

pub returns-in-Some : goal.returns-in-Some
returns-in-Some g c =
    let r = c.args.report.now in
    called_as r.shape.processes r.shape.registers r.entries c.args.facts.now c.args.id c.args.op c.in-Some.fact c.is_same.result c.history-history.ensures.report.history c.requires (sym c.fact_of.ensures ∙ c.in-Some.is) c.is_same.ensures.0 c.is_same.ensures.1

pub returns-in-None : goal.returns-in-None
returns-in-None g c = (
  λ yes. absurd (cc),
  λ called. absurd (not_called c.args.report.now.entries c.args.facts.now c.args.id c.requires (sym c.fact_of.ensures ∙ c.in-None.is) (called.0, c.args.op, called.1)),
)
