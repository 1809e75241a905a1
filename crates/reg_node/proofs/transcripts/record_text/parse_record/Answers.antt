use Rattle.std.proofs.Common.{ap, ◌∙◌}
use Rattle.reg_text.specs.Lines.{lines_of}
use Rattle.reg_node.proofs.Accounts.{text_line}
use Rattle.reg_node.proofs.transcripts.record_text.parse_record.Goals as goal

pub returns-clause-line : goal.returns-clause-line
returns-clause-line g c few =
    let start = c.new-lines.ensures in
    text_line c.args.text.now c.new-lines.result c.read_record.new.lines c.read_record.result few
    (start.lines.0 ∙ ap lines_of c.as_bytes.ensures.value) (start.lines.1 ∙ ap lines_of c.as_bytes.ensures.value) start.number.0 start.number.1 c.read_record.ensures.stopped
