use Rattle.std.proofs.Common.{◌∙◌, length, ap}
use Rattle.reg_front.specs.Table.{front_name}
use Rattle.reg_inputs.specs.Schedules.{Plan}
use Rattle.reg_reasons.proofs.WhyTold.{tells_schedule}
use Rattle.reg_reasons.proofs.refusals.tell_run.Goals as goal

pub returns-in-Ok-accepted-clause-told : goal.returns-in-Ok-accepted-clause-told
returns-in-Ok-accepted-clause-told g c =
    let p = c.args.schedule in
    let is = c.schedule.view_is in
    tells_schedule p c.in-Ok-accepted.told.is_accepted c.in-Ok-accepted.told.answer.items c.args.text.now _ _ _ _ c.requires.good c.requires.read c.in-Ok.ensures.ran
    (c.processes.ensures.value ∙ ap (λ (q : Plan). q.shape.processes) is) (c.registers.ensures.value ∙ ap (λ (q : Plan). q.shape.registers) is) (c.name.ensures ∙ ap (λ (q : Plan). front_name q.front) is) (ap length (c.as_slice.ensures.value ∙ ap (λ (q : Plan). q.events) is))
    c.in-Ok-accepted.ensures.0 c.in-Ok-accepted.ensures.1
