use Rattle.std.proofs.Common.{[], ◌∙◌, ap, refl}
use Rattle.std.proofs.lemmas.Bool.{false≢true}
use Rattle.reg_front.specs.declared.named.Front.TheVariants.{Linear}
use Rattle.reg_inputs.specs.Schedules.{Plan}
use Rattle.reg_commands.proofs.FirstRefused.{first_refused}
use Rattle.reg_world.specs.Worlds.{Made}
use Rattle.reg_show.proofs.Shortened.{answers_keep, not_accepted}
use Rattle.reg_show.proofs.shortening.keep_answers.Goals as goal

pub returns-in-Ok : goal.returns-in-Ok
returns-in-Ok g c =
    answers_keep g.F.FrontEnd.start c.args.shape c.args.entries.now c.entries.result.now c.args.events.items c.processes-processes.result c.have_same_answers.result c.in-Ok.ensures.accepted
    (c.entries.ensures.value ∙ (c.history.ensures.value ∙ ap (λ (w : Made). w.history) c.in-Ok.ensures.world)) c.processes-processes.ensures.value c.have_same_answers.ensures

pub returns-in_default : goal.returns-in_default
returns-in_default g c =
    let start = g.F.FrontEnd.start in
    let plan : Plan = record { shape = c.args.shape; names = []; front = Linear; events = c.args.events.items } in
    let fault = c.in-Err.field-0 in
    let first = first_refused start plan fault.at c.args.shape c.args.events.items fault.fault refl refl c.in_default.not-OutOfMemory c.in-Err.ensures.world c.in-Err.ensures.accepted in
    (λ e. absurd (false≢true e), λ keeps. absurd (not_accepted start plan fault.at fault.fault first keeps.accepted))
