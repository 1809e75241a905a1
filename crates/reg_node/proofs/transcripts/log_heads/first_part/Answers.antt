use Rattle.std.proofs.Common.{sym}
use Rattle.std.proofs.lemmas.List.{take-append-drop}
use Rattle.reg_node.proofs.Begins.{first_are}
use Rattle.reg_node.proofs.transcripts.log_heads.first_part.Goals as goal

pub returns-clause-part : goal.returns-clause-part
returns-clause-part c = (_, sym (take-append-drop _ c.args.bytes.now))

pub returns-clause-whole : goal.returns-clause-whole
returns-clause-whole c = first_are c.args.bytes.now c.behind_lines.result.now c.behind_lines-rest.result.now c.args.entries c.behind_lines.ensures.whole c.behind_lines-rest.ensures.whole
