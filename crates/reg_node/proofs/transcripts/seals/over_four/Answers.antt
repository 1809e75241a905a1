use Rattle.reg_node.proofs.Fours.{by_table}
use Rattle.reg_node.proofs.transcripts.seals.over_four.Goals as goal

-- src/seals.rt:16:1
pub returns : goal.returns
returns c = by_table c.args.crc
