use Rattle.std.proofs.Common.{ℕ, List, inr}
use Rattle.std.specs.Io.KnownBytes.{Appends}
use Rattle.reg_show.specs.Showings.{ShowsPlan, ShowsPlay, StopsPlay, StopsShowing}
use Rattle.reg_show.proofs.Shown.{if_err, if_ok}
use Rattle.reg_show.proofs.running.show_play.Goals as goal

pub returns-clause-ok : goal.returns-clause-ok
returns-clause-ok g c =
    let p = c.in_ok-play.play.schedule in
    let notes = c.in_ok-play.play.notes in
    let view = c.args.view in
    let Wrote : List ℕ → Type 0 = Appends (g.W.Write.contents c.args.writer.now) (g.W.Write.contents c.show_schedule.new.writer) in
    if_ok (λ (x : Unit {0}). ShowsPlan view.showing notes Wrote p) (λ (x : Unit {0}). ShowsPlay view Wrote c.args.work) c.show_schedule.result
    (λ x shown. record { plan = p; notes = notes; played = c.in_ok-play.ensures; shown = shown }) c.show_schedule.ensures.ok

pub returns-clause-why : goal.returns-clause-why
returns-clause-why g c =
    let p = c.in_ok-play.play.schedule in
    if_err (StopsShowing c.args.view.showing p) (StopsPlay c.args.view c.args.work) c.show_schedule.result
    (λ f stops. inr (p, c.in_ok-play.play.notes, c.in_ok-play.ensures, stops)) c.show_schedule.ensures.why
