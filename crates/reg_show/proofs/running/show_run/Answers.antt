use Rattle.std.proofs.Common.{ℕ, List, subst}
use Rattle.std.specs.Prelude.{IfOk}
use Rattle.std.specs.Io.KnownBytes.{Appends}
use Rattle.reg_text.specs.Writing.{AppendsPart}
use Rattle.reg_show.specs.Showings.{ShowsPlan, ShowsText}
use Rattle.reg_show.proofs.Shown.{if_ok}
use Rattle.reg_show.proofs.running.show_run.Goals as goal

pub returns-clause-ok : goal.returns-clause-ok
returns-clause-ok g c =
    let p = c.in_ok-schedule.schedule in
    let text = c.args.text.now in
    let Wrote : List ℕ → Type 0 = Appends (g.W.Write.contents c.args.writer.now) (g.W.Write.contents c.show_schedule.new.writer) in
    if_ok (λ (x : Unit {0}). ShowsPlan c.args.showing c.in_ok-notes.notes Wrote p) (λ (x : Unit {0}). ShowsText c.args.showing Wrote text) c.show_schedule.result
    (λ x shown. record { plan = p; good = c.in_ok-schedule.ensures.read.1; read = c.in_ok-schedule.ensures.read.0; shown = subst (λ n. ShowsPlan c.args.showing n Wrote p) c.in_ok-notes.ensures shown }) c.show_schedule.ensures.ok
