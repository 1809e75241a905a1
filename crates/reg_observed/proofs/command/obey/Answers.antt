use Rattle.std.proofs.Common.{Bool, List, ℕ, string_bytes}
use Rattle.std.specs.Io.KnownBytes.{Appends}
use Rattle.reg_observed.specs.Commands.{IsAnyJudged}
use Rattle.reg_observed.proofs.Answering.{of_input}
use Rattle.reg_observed.proofs.command.obey.Goals as goal

pub returns-clause-ok : goal.returns-clause-ok
returns-clause-ok g c =
    let held = g.W.Write.contents in
    let P : Bool → List ℕ → Type 0 = λ found text. IsAnyJudged c.args.flags found (Appends (held c.args.writer.now) (held c.answer.new.writer)) text in
    of_input P c.answer.result (g.R.Read.remaining c.args.reader.now) (string_bytes c.in_ok-text.text) c.in_ok-text.ensures.ok c.answer.ensures.ok
