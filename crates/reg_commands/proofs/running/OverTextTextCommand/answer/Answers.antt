use Rattle.std.proofs.Common.{refl, sym, subst}
use Rattle.std.specs.Prelude.{true, IfOk, IfErr, IsErrOf, string_bytes}
use Rattle.std.specs.Io.KnownBytes.{Appends}
use Rattle.reg_commands.specs.Answers.{Answers, AnswersInPart, Blames}
use Rattle.reg_commands.specs.Plays.{Plays}
use Rattle.reg_commands.specs.declared.faults.Fault.TheVariants.{Output}
use Rattle.reg_commands.proofs.running.OverTextTextCommand.answer.Goals as goal

pub returns-in_ok-replay-in-Replay-clause-ok : goal.returns-in_ok-replay-in-Replay-clause-ok
returns-in_ok-replay-in-Replay-clause-ok g c = subst (λ k. Answers k true (Appends (g.W.Write.contents c.args.writer.now) (g.W.Write.contents c.replay.new.writer)) (string_bytes c.args.text)) (sym c.in-Replay.is) (refl, c.in_ok-replay-in-Replay.ensures.ok)

pub returns-in_ok-play-in-Play-clause-ok : goal.returns-in_ok-play-in-Play-clause-ok
returns-in_ok-play-in-Play-clause-ok g c = subst (λ k. Answers k true (Appends (g.W.Write.contents c.args.writer.now) (g.W.Write.contents c.play.new.writer)) (string_bytes c.args.text)) (sym c.in-Play.is) (refl, subst (λ t. Plays c.in-Play.fair (Appends (g.W.Write.contents c.args.writer.now) (g.W.Write.contents c.play.new.writer)) t) c.as_str.ensures.value c.in_ok-play-in-Play.ensures.ok)

pub returns-in-Check-clause-ok : goal.returns-in-Check-clause-ok
returns-in-Check-clause-ok g c = subst (λ k. IfOk c.check.result (λ agrees. Answers k agrees (Appends (g.W.Write.contents c.args.writer.now) (g.W.Write.contents c.check.new.writer)) (string_bytes c.args.text))) (sym c.in-Check.is) c.check.ensures.ok

pub returns-in-Check-clause-why : goal.returns-in-Check-clause-why
returns-in-Check-clause-why g c = subst (λ k. IfErr c.check.result (λ f. Blames k f (string_bytes c.args.text))) (sym c.in-Check.is) c.check.ensures.why

pub returns-in-Check-clause-silent : goal.returns-in-Check-clause-silent
returns-in-Check-clause-silent g c = c.check.ensures.silent

pub returns-in-Check-clause-part : goal.returns-in-Check-clause-part
returns-in-Check-clause-part g c = subst (λ k. IsErrOf c.check.result Output → AnswersInPart k (g.W.Write.contents c.args.writer.now) (g.W.Write.contents c.check.new.writer) (string_bytes c.args.text)) (sym c.in-Check.is) c.check.ensures.part
