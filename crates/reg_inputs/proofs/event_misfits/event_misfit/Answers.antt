use Rattle.std.proofs.Common.{refl}
use Rattle.reg_inputs.proofs.SpelledWords.{words_of}
use Rattle.reg_inputs.proofs.ToldLines.{event_form_tells, event_by_limits, form_why, limits_why_some}
use Rattle.reg_inputs.proofs.event_misfits.event_misfit.Goals as goal

pub returns-in-Some-clause-misfit : goal.returns-in-Some-clause-misfit
returns-in-Some-clause-misfit g c = let words = words_of c.args.line.now in event_form_tells c.args.names.now c.args.line.now c.in-Some.misfit c.requires (c.in-Some.ensures.told words.0 words.1)

pub returns-in-Some-clause-why : goal.returns-in-Some-clause-why
returns-in-Some-clause-why g c =
    let words = words_of c.args.line.now in
    let told = c.in-Some.ensures.told words.0 words.1 in
    form_why c.args.names.now c.args.line.now c.in-Some.misfit told.2 (event_form_tells c.args.names.now c.args.line.now c.in-Some.misfit c.requires told)

pub returns-in-None-clause-is : goal.returns-in-None-clause-is
returns-in-None-clause-is g c =
    let words = words_of c.args.line.now in
    (event_by_limits c.args.names.now c.args.line.now c.event_misfit_by-in-None.result c.requires (c.in-None.ensures.told words.0 words.1) (c.event_misfit_by-in-None.ensures.told words.0 words.1)).0

pub returns-in-None-clause-misfit : goal.returns-in-None-clause-misfit
returns-in-None-clause-misfit g c =
    let words = words_of c.args.line.now in
    (event_by_limits c.args.names.now c.args.line.now c.event_misfit_by-in-None.result c.requires (c.in-None.ensures.told words.0 words.1) (c.event_misfit_by-in-None.ensures.told words.0 words.1)).1

pub returns-in-None-clause-why : goal.returns-in-None-clause-why
returns-in-None-clause-why g c =
    let words = words_of c.args.line.now in
    let form = c.in-None.ensures.told words.0 words.1 in
    let told = c.event_misfit_by-in-None.ensures.told words.0 words.1 in
    limits_why_some c.args.names.now c.args.line.now c.event_misfit_by-in-None.result c.requires form told (c.event_misfit_by-in-None.ensures.why words.0 words.1 refl form)
