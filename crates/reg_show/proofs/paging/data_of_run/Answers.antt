use Rattle.std.proofs.Common.{refl}
use Rattle.std.proofs.lemmas.Result.{err_from_is_err_and}
use Rattle.reg_world.specs.Worlds.{after_events}
use Rattle.reg_commands.proofs.FirstRefused.{blames_run}
use Rattle.reg_commands.proofs.Named.{points_of_plan}
use Rattle.reg_show.proofs.paging.data_of_run.Goals as goal

pub returns-clause-told : goal.returns-clause-told
returns-clause-told g c =
    let start = g.F.FrontEnd.start in
    let p = c.args.schedule in
    let told = c.in_ok-tell_data.field-0 in
    record { points = told.points; pointed = points_of_plan start g.F.NamedFront.front p (after_events start p.shape p.events) told.points refl c.in_ok-tell_data.ensures.points; told = c.in_ok-tell_data.ensures.data }

pub returns-in_err-tell_data-clause-why : goal.returns-in_err-tell_data-clause-why
returns-in_err-tell_data-clause-why g c =
    let p = c.args.schedule in
    let told = err_from_is_err_and c.from_residual.result c.from_residual.ensures.1 in
    rw (told.1, told.2) (blames_run g.F.FrontEnd.start p p.shape p.events c.in_err-tell_data.field-0.0 refl refl (c.in_err-tell_data.ensures.refused, c.in_err-tell_data.ensures.before))
