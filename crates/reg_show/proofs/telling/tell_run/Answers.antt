use Rattle.std.proofs.Common.{◌≡◌, ◌∙◌, ap, ap₂, option_map}
use Rattle.std.proofs.lemmas.Result.{err_from_is_err_and}
use Rattle.reg_inputs.specs.Schedules.{Plan}
use Rattle.reg_commands.proofs.FirstRefused.{blames_run}
use Rattle.reg_commands.proofs.Named.{points_of_plan}
use Rattle.reg_world.specs.Worlds.{after_events}
use Rattle.reg_show.proofs.Told.{told_run}
use Rattle.reg_show.proofs.telling.tell_run.Goals as goal

pub returns-clause-told : goal.returns-clause-told
returns-clause-told g c =
    let start = g.F.FrontEnd.start in
    let shape : c.schedule.inside.shape ≡ c.args.schedule.shape = ap (λ (p : Plan). p.shape) c.schedule.view_is in
    let events : c.as_slice.result.now ≡ c.args.schedule.events = c.as_slice.ensures.value ∙ ap (λ (p : Plan). p.events) c.schedule.view_is in
    let ran = c.in_ok-world.ensures in
    told_run start c.args.schedule c.schedule.inside.shape c.as_slice.result.now _ c.in_ok-world.field-0.moments.items c.in_ok-world.field-0.world _ shape events (ap (λ (p : Plan). p.names) c.schedule.view_is) ran.world ran.accepted ran.told c.into_history.ensures.entries

pub returns-clause-points : goal.returns-clause-points
returns-clause-points g c =
    let start = g.F.FrontEnd.start in
    let shape : c.schedule.inside.shape ≡ c.args.schedule.shape = ap (λ (p : Plan). p.shape) c.schedule.view_is in
    let events : c.as_slice.result.now ≡ c.args.schedule.events = c.as_slice.ensures.value ∙ ap (λ (p : Plan). p.events) c.schedule.view_is in
    points_of_plan start g.F.NamedFront.front c.args.schedule c.in_ok-world.field-0.world (option_map (λ v. v.items) c.in_ok-points.points) (c.in_ok-world.ensures.world ∙ ap₂ (after_events start) shape events) c.in_ok-points.ensures

pub returns-in_err-world-clause-why : goal.returns-in_err-world-clause-why
returns-in_err-world-clause-why g c =
    let shape : c.schedule.inside.shape ≡ c.args.schedule.shape = ap (λ (p : Plan). p.shape) c.schedule.view_is in
    let events : c.as_slice.result.now ≡ c.args.schedule.events = c.as_slice.ensures.value ∙ ap (λ (p : Plan). p.events) c.schedule.view_is in
    let told = err_from_is_err_and c.from_residual.result c.from_residual.ensures.1 in
    rw (told.1, told.2) (blames_run g.F.FrontEnd.start c.args.schedule c.schedule.inside.shape c.as_slice.result.now c.in_err-world.field-0.0 shape events (c.in_err-world.ensures.refused, c.in_err-world.ensures.accepted))
