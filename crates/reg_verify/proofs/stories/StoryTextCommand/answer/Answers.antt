use Rattle.std.proofs.Common.{Bool}
use Rattle.std.specs.Prelude.{string_bytes}
use Rattle.std.specs.Io.KnownBytes.{Appends}
use Rattle.std.proofs.lemmas.Result.{IfOk-weaker, MatchResult-weaker}
use Rattle.reg_text.specs.Writing.{AppendsPart}
use Rattle.reg_verify.specs.StoryTexts.{TellsReports}
use Rattle.reg_verify.proofs.StoryTold.{blamed_of, told_of}
use Rattle.reg_verify.proofs.stories.StoryTextCommand.answer.Goals as goal

pub returns-clause-ok : goal.returns-clause-ok
returns-clause-ok g c =
    IfOk-weaker c.tell_of.result (λ (agrees : Bool). TellsReports agrees (Appends (g.W.Write.contents c.args.writer.now) (g.W.Write.contents c.tell_of.new.writer)) c.deref.result.now) _
    (λ agrees told. told_of agrees (Appends (g.W.Write.contents c.args.writer.now) (g.W.Write.contents c.tell_of.new.writer)) (string_bytes c.args.text) c.in_ok-reports.reports.items c.deref.result.now c.deref.ensures.value c.in_ok-reports.ensures.read c.in_ok-reports.ensures.whole told) c.tell_of.ensures.ok

pub returns-clause-why : goal.returns-clause-why
returns-clause-why g c = MatchResult-weaker c.tell_of.result c.tell_of.ensures.why (λ agrees t. t) (λ f either. blamed_of (string_bytes c.args.text) c.in_ok-reports.reports.items f c.in_ok-reports.ensures.read either)

pub returns-clause-part : goal.returns-clause-part
returns-clause-part g c = λ failed.
    let t = c.tell_of.ensures.part failed in
    (t.0, told_of t.0 (AppendsPart (g.W.Write.contents c.args.writer.now) (g.W.Write.contents c.tell_of.new.writer)) (string_bytes c.args.text) c.in_ok-reports.reports.items c.deref.result.now c.deref.ensures.value c.in_ok-reports.ensures.read c.in_ok-reports.ensures.whole t.1)
