use Rattle.reg_inputs.proofs.SpelledWords.{words_of}
use Rattle.reg_inputs.proofs.ToldLines.{op_form_tells, op_by_limits}
use Rattle.reg_inputs.proofs.event_misfits.op_misfit.Goals as goal

pub returns-in-Some-clause-misfit : goal.returns-in-Some-clause-misfit
returns-in-Some-clause-misfit g c = let words = words_of c.args.text.now in op_form_tells c.args.names.now c.args.text.now c.in-Some.misfit c.requires (c.in-Some.ensures.told words.0 words.1)

pub returns-in-None-clause-is : goal.returns-in-None-clause-is
returns-in-None-clause-is g c =
    let words = words_of c.args.text.now in
    (op_by_limits c.args.names.now c.args.text.now c.op_misfit_by-in-None.result c.requires (c.in-None.ensures.told words.0 words.1) (c.op_misfit_by-in-None.ensures.told words.0 words.1)).0

pub returns-in-None-clause-misfit : goal.returns-in-None-clause-misfit
returns-in-None-clause-misfit g c =
    let words = words_of c.args.text.now in
    (op_by_limits c.args.names.now c.args.text.now c.op_misfit_by-in-None.result c.requires (c.in-None.ensures.told words.0 words.1) (c.op_misfit_by-in-None.ensures.told words.0 words.1)).1
