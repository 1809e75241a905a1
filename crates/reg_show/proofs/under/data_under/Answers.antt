use Rattle.std.proofs.Common.{refl}
use Rattle.std.proofs.lemmas.Result.{err_from_is_err_and}
use Rattle.reg_commands.proofs.FirstRefused.{blames_run}
use Rattle.reg_show.proofs.under.data_under.Goals as goal

pub returns-in_err-tell_data_under-clause-why : goal.returns-in_err-tell_data_under-clause-why
returns-in_err-tell_data_under-clause-why g c =
    let p = c.args.schedule in
    let told = err_from_is_err_and c.from_residual.result c.from_residual.ensures.1 in
    rw (told.1, told.2) (blames_run g.F.FrontEnd.start p p.shape p.events c.in_err-tell_data_under.field-0.0 refl refl (c.in_err-tell_data_under.ensures.refused, c.in_err-tell_data_under.ensures.before))
