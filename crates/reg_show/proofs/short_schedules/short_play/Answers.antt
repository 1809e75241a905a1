use Rattle.std.proofs.Common.{◌≡◌, ◌⊎◌, ◌<◌, List, length, take, refl, ap, sym, ◌∙◌}
use Rattle.std.specs.Prelude.{Vec}
use Rattle.reg_commands.specs.declared.faults.Fault.TheVariants.{OutOfMemory}
use Rattle.reg_inputs.specs.Loads.{Load}
use Rattle.reg_process.specs.declared.events.Event.{Event}
use Rattle.reg_show.specs.Shorts.{IsShortPlay, KeepsAnswers, LacksShort, Shortens, up_to_last_answer}
use Rattle.reg_show.specs.declared.faults.ShowFault.{ShowFault}
use Rattle.reg_show.specs.declared.faults.ShowFault.TheVariants.{Command, TooManyToShorten}
use Rattle.reg_show.specs.declared.short_schedules.TheConstants.{MOST_SHORTENED}
use Rattle.reg_show.proofs.ShortPlays.{lacks_short, same_beginning, short_of_play}
use Rattle.reg_show.proofs.Shown.{if_err, if_ok}
use Rattle.reg_show.proofs.short_schedules.short_play.Goals as goal

pub returns-clause-short : goal.returns-clause-short
returns-clause-short g c =
    let start = g.F.FrontEnd.start in
    let work : Load = c.args.work.now in
    let made = c.in_ok-play.play.world in
    let shape = c.work.inside.shape in
    let told = c.entries-entries.result.now in
    let accepted = c.accepted.result.now in
    let short : List Event = take (up_to_last_answer told) accepted in
    let entries = c.entries-entries.ensures.value ∙ c.history.ensures.value in
    let events = same_beginning made told accepted short entries c.accepted.ensures.value refl in
    if_ok (λ (v : Vec Event g.row.A.Denot). Shortens (KeepsAnswers start shape told) (length short) short v.items) (λ v. IsShortPlay c.args.fair start work v.items) c.short_form.result
    (λ v tried. short_of_play c.args.fair start work made c.in_ok-play.play.finished shape told short v.items (ap (λ (w : Load). w.shape) c.work.view_is) entries events c.in_ok-play.ensures c.accepted.ensures.all (sym c.history.ensures.value ∙ c.history.ensures.entries) tried)
    c.short_form.ensures.short

pub returns-clause-why : goal.returns-clause-why
returns-clause-why g c =
    let start = g.F.FrontEnd.start in
    let work : Load = c.args.work.now in
    let made = c.in_ok-play.play.world in
    let told = c.entries-entries.result.now in
    let accepted = c.accepted.result.now in
    let short : List Event = take (up_to_last_answer told) accepted in
    let events = same_beginning made told accepted short (c.entries-entries.ensures.value ∙ c.history.ensures.value) c.accepted.ensures.value refl in
    if_err (λ (f : ShowFault). (f ≡ Command OutOfMemory) ⊎ ((f ≡ TooManyToShorten) × (MOST_SHORTENED < length short))) (LacksShort c.args.fair start work) c.short_form.result
    (λ f why. lacks_short c.args.fair start work made c.in_ok-play.play.finished short events c.in_ok-play.ensures f why)
    c.short_form.ensures.why
