use Rattle.std.proofs.Common.{string_bytes}
use Rattle.reg_text.specs.Writing.{AppendsPart}
use Rattle.reg_commands.proofs.Parts.{of_input}
use Rattle.reg_cli.specs.Lives.{Lives}
use Rattle.reg_cli.proofs.performing.obey.Goals as goal

pub returns-clause-part : goal.returns-clause-part
returns-clause-part g c failed =
    of_input (Lives (AppendsPart (g.W.Write.contents c.args.writer.now) (g.W.Write.contents c.perform_text.new.writer))) (g.I.Read.remaining c.args.reader.now) (string_bytes c.in_ok-text.text) c.as_str.result.now c.in_ok-text.ensures.ok c.as_str.ensures.value (c.perform_text.ensures.part failed)
