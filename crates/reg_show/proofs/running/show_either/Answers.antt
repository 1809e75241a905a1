use Rattle.std.proofs.Common.{◌≡◌, ℕ, List, Option, Some, inr, subst}
use Rattle.std.specs.Prelude.{IfSome}
use Rattle.std.specs.Io.KnownBytes.{Appends}
use Rattle.reg_text.specs.Writing.{AppendsPart}
use Rattle.reg_commands.specs.Plays.{Holds}
use Rattle.reg_inputs.specs.Loads.{Load}
use Rattle.reg_show.specs.Showings.{Blames, Shows, ShowsPlay, StopsPlay}
use Rattle.reg_show.specs.declared.faults.ShowFault.{ShowFault}
use Rattle.reg_show.proofs.Shown.{if_err, if_ok}
use Rattle.reg_show.proofs.running.show_either.Goals as goal

-- what holds of the workload, where there is one
said : (text : List ℕ) (o : Option Load) (work : Load) → IfSome o (Holds text) → o ≡ Some work → Holds text work
said text o work holds is = subst (λ x. IfSome x (Holds text)) is holds

pub returns-in-Some-clause-ok : goal.returns-in-Some-clause-ok
returns-in-Some-clause-ok g c =
    let text = c.args.text.now in
    let work : Load = c.in-Some.work in
    let holds = said text c.in_ok-work.field-0 work c.in_ok-work.ensures c.in-Some.is in
    let Wrote : List ℕ → Type 0 = Appends (g.W.Write.contents c.args.writer.now) (g.W.Write.contents c.show_play.new.writer) in
    if_ok (λ (x : Unit {0}). ShowsPlay c.args.view Wrote work) (λ (x : Unit {0}). Shows c.args.view Wrote text) c.show_play.result
    (λ x shown. inr (record { work = work; holds = holds; shown = shown })) c.show_play.ensures.ok

pub returns-in-Some-clause-why : goal.returns-in-Some-clause-why
returns-in-Some-clause-why g c =
    let text = c.args.text.now in
    let work : Load = c.in-Some.work in
    let holds = said text c.in_ok-work.field-0 work c.in_ok-work.ensures c.in-Some.is in
    if_err (StopsPlay c.args.view work) (λ (f : ShowFault). Blames c.args.view f text) c.show_play.result (λ f stops. inr (inr (work, holds, stops))) c.show_play.ensures.why

pub returns-in-Some-clause-part : goal.returns-in-Some-clause-part
returns-in-Some-clause-part g c = λ failed.
    let text = c.args.text.now in
    let work : Load = c.in-Some.work in
    inr (record { work = work; holds = said text c.in_ok-work.field-0 work c.in_ok-work.ensures c.in-Some.is; shown = c.show_play.ensures.part failed })
