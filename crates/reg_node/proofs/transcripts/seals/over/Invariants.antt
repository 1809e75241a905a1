use Rattle.std.proofs.Common.{◌≡◌, take}
use Rattle.reg_node.specs.Seals.{crc_over}
use Rattle.reg_node.proofs.transcripts.seals.over.Given as goal

abbrev pub invariant-loop-byte : goal.invariant-loop-byte
invariant-loop-byte l = l.after ≡ crc_over l.crc (take l.byte-index l.bytes)
