use Rattle.std.proofs.Common.{sym, ◌∙◌}
use Rattle.reg_text.specs.Writing.{AppendsPart}
use Rattle.reg_cli.proofs.Told.{refused_told}
use Rattle.reg_cli.specs.Lines.{refused_line}
use Rattle.reg_cli.proofs.program.refuse.Goals as goal

pub returns-clause-told : goal.returns-clause-told
returns-clause-told g c = λ two.
    refused_told c.args.fault refused_line (AppendsPart (g.E.Write.contents c.args.errors.now) (g.E.Write.contents c.tell.new.errors)) c.tell.ensures.told (sym c.tell.ensures.status ∙ two)
