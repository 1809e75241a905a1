use Rattle.std.proofs.Common.{inl, inr, false, List, Some, ap, ◌∙◌, sym, subst}
use Rattle.std.specs.Prelude.{slice_get}
use Rattle.reg_inputs.specs.Loads.{Load}
use Rattle.reg_inputs.specs.Schedules.{IsPlan}
use Rattle.reg_process.specs.declared.events.Event.{Event}
use Rattle.reg_world.specs.Worlds.{after_events}
use Rattle.reg_show.specs.Shorts.{LacksShort}
use Rattle.reg_show.specs.Showings.{IsShownPlay}
use Rattle.reg_show.specs.declared.showing.Form.TheVariants.{Short, Whole}
use Rattle.reg_show.proofs.Accepted.{good_plan}
use Rattle.reg_show.proofs.Shown.{if_ok}
use Rattle.reg_show.proofs.forms.shown_short.Goals as goal

pub returns-in_ok-notes-in-Ok : goal.returns-in_ok-notes-in-Ok
returns-in_ok-notes-in-Ok g c =
    let start = g.F.FrontEnd.start in
    let work : Load = c.args.work in
    let short = c.in-Ok.events.items in
    let play = c.in-Ok.ensures.short in
    let load = c.with_events-schedule.ensures.load in
    let same = c.with_events-schedule.ensures.plan in
    let good = good_plan start work (after_events start work.shape short) load load.processes load.registers play.keeps.accepted
    (λ k e h. c.events_have_bits.ensures k e (ap (λ (l : List Event). slice_get l k) c.as_slice.ensures.value ∙ h)) in
    inl ((short, play, same, subst IsPlan (sym same) good), c.in_ok-notes-in-Ok.ensures)

pub returns-in-Err-TooManyToShorten : goal.returns-in-Err-TooManyToShorten
returns-in-Err-TooManyToShorten g c =
    let start = g.F.FrontEnd.start in
    let work : Load = c.args.work in
    if_ok (λ s. IsShownPlay Whole start work s.schedule s.notes) (λ s. IsShownPlay Short start work s.schedule s.notes) c.shown_whole.result
    (λ s whole. inr (subst (LacksShort false start work) c.in-Err-TooManyToShorten.field-0-is c.in-Err-TooManyToShorten.ensures.why, whole.0, whole.1)) c.shown_whole.ensures
