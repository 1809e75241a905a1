use Rattle.std.proofs.Common.{◌∙◌, length, ap}
use Rattle.reg_base.specs.Shape.{Extent}
use Rattle.reg_reasons.specs.Tellings.{yes_text}
use Rattle.reg_reasons.proofs.WhyTold.{agrees, if_ok}
use Rattle.reg_reasons.proofs.refusals.agree.Goals as goal

pub returns-in-Some : goal.returns-in-Some
returns-in-Some g c =
    let history = c.history-history.ensures in
    if_ok _ _ c.accepted.result (λ t h. (
      agrees c.args.report.now c.args.verdicts t.answer.items c.args.text.now _ _ _ _ _ history.report c.requires.read c.requires.judged c.requires.yes
          (c.processes.ensures.value ∙ ap (λ (s : Extent). s.processes) (c.shape.ensures ∙ history.shape)) (c.registers.ensures.value ∙ ap (λ (s : Extent). s.registers) (c.shape-2.ensures ∙ history.shape)) c.front.ensures (ap length (c.entries.ensures.value ∙ history.entries)) (ap yes_text c.in-Some.ensures) h.0,
      h.1,
    )) c.accepted.ensures

pub returns-in-None : goal.returns-in-None
returns-in-None g c =
    let history = c.history-history.ensures in
    if_ok _ _ c.accepted-in-None.result (λ t h. (
      agrees c.args.report.now c.args.verdicts t.answer.items c.args.text.now _ _ _ _ _ history.report c.requires.read c.requires.judged c.requires.yes
          (c.processes.ensures.value ∙ ap (λ (s : Extent). s.processes) (c.shape.ensures ∙ history.shape)) (c.registers.ensures.value ∙ ap (λ (s : Extent). s.registers) (c.shape-2.ensures ∙ history.shape)) c.front.ensures (ap length (c.entries.ensures.value ∙ history.entries)) (ap yes_text c.in-None.ensures) h.0,
      h.1,
    )) c.accepted-in-None.ensures
