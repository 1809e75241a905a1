use Rattle.std.proofs.Common.{◌∙◌, ap, sym}
use Rattle.reg_front.specs.Table.{front_name}
use Rattle.reg_inputs.specs.Loads.{Load}
use Rattle.reg_reasons.proofs.Operations.{counted, few_counted, ops_in}
use Rattle.reg_reasons.proofs.WhyTold.{if_ok, tells_load}
use Rattle.reg_reasons.proofs.refusals.tell_load.Goals as goal

pub operations_of-requires : goal.operations_of-requires
operations_of-requires g c =
    few_counted _ c.as_slice.result.now (ap ops_in (sym c.as_slice.ensures.value)) c.work.invariant

pub returns : goal.returns
returns g c =
    let is = c.work.view_is in
    let scripts = ap (λ (w : Load). w.scripts) (sym is) ∙ ap ops_in (sym c.as_slice.ensures.value) in
    if_ok _ _ c.accepted.result (λ t h. tells_load c.args.work.now t.is_accepted t.answer.items c.args.text.now _ _ _ _ c.requires
    (c.processes.ensures.value ∙ ap (λ (w : Load). w.shape.processes) is) (c.registers.ensures.value ∙ ap (λ (w : Load). w.shape.registers) is) (c.name.ensures ∙ ap (λ (w : Load). front_name w.front) is)
    (c.operations_of.ensures ∙ counted c.args.work.now c.as_slice.result.now scripts) h.0 h.1) c.accepted.ensures
