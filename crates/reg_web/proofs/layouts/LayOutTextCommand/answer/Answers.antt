use Rattle.std.proofs.Common.{ℕ, List, true, ◌∙◌, subst}
use Rattle.reg_text.specs.Writing.{AppendsPart}
use Rattle.reg_web.proofs.layouts.LayOutTextCommand.answer.Goals as goal

pub returns-in_err-write_answer-clause-part : goal.returns-in_err-write_answer-clause-part
returns-in_err-write_answer-clause-part g c = λ _.
    let made = c.in_ok-layout.ensures.made in
    let Wrote : List ℕ → Type 0 = AppendsPart (g.W.Write.contents c.args.writer.now) (g.W.Write.contents c.write_answer.new.writer) in
    (true, record { work = made.0; good = made.1; written = subst Wrote (c.as_slice.ensures.value ∙ made.2) c.in_err-write_answer.ensures.1 })
