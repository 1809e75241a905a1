use Rattle.std.proofs.Common.{◌≡◌, ap}
use Rattle.std.proofs.lemmas.Result.{err_from_is_err_and}
use Rattle.reg_inputs.specs.Schedules.{Plan}
use Rattle.reg_commands.proofs.FirstRefused.{blames_run}
use Rattle.reg_commands.proofs.replaying.run_events.Goals as goal

pub returns-in_err-world-clause-why : goal.returns-in_err-world-clause-why
returns-in_err-world-clause-why g c =
    let start = g.F.FrontEnd.start in
    let shape : c.schedule.inside.shape ≡ c.args.schedule.shape = ap (λ (p : Plan). p.shape) c.schedule.view_is in
    let events : c.schedule.inside.events.items ≡ c.args.schedule.events = ap (λ (p : Plan). p.events) c.schedule.view_is in
    let told = err_from_is_err_and c.from_residual.result c.from_residual.ensures.1 in
    rw (told.1, told.2) (blames_run start c.args.schedule c.schedule.inside.shape c.schedule.inside.events.items c.in_err-world.field-0.0 shape events ((λ _. c.in_err-world.ensures.world), (λ _. c.in_err-world.ensures.accepted)))
