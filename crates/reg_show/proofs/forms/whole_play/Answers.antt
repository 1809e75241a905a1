use Rattle.std.proofs.Common.{List, Some, refl, ap, ◌∙◌, sym, subst}
use Rattle.std.specs.Prelude.{slice_get}
use Rattle.reg_inputs.specs.Loads.{Load}
use Rattle.reg_inputs.specs.Schedules.{IsPlan}
use Rattle.reg_process.specs.declared.events.Event.{Event}
use Rattle.reg_show.proofs.Accepted.{good_plan, made_plan}
use Rattle.reg_show.proofs.forms.whole_play.Goals as goal

pub returns : goal.returns
returns g c =
    let work : Load = c.args.work in
    let made = c.in_ok-play.play.world in
    let load = c.with_events.ensures.load in
    let play = c.in_ok-play.ensures.play in
    let events = c.in_ok-events.ensures.items_if_clones_equal (λ x y same. same) ∙ c.accepted-2.ensures.value in
    let same = c.with_events.ensures.plan ∙ made_plan work made work.shape work.names work.front c.in_ok-events.events.items refl refl refl events play.processes play.registers in
    let good = good_plan g.F.FrontEnd.start work made load (play.processes ∙ load.processes) (play.registers ∙ load.registers) c.accepted.ensures.all
    (λ k e h. c.events_have_bits.ensures k e (ap (λ (l : List Event). slice_get l k) c.accepted.ensures.value ∙ h)) in
    (made, c.in_ok-play.play.finished, c.in_ok-play.ensures, same, subst IsPlan (sym same) good)
