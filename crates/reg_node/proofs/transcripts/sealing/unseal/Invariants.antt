use Rattle.std.proofs.Common.{length}
use Rattle.reg_node.specs.Unsealing.{IsBegunBy}
use Rattle.reg_node.proofs.transcripts.sealing.unseal.Given as goal

-- the lines so far stand whole
abbrev pub invariant-loop-line : goal.invariant-loop-line
invariant-loop-line g l = IsBegunBy l.bytes l.text.items l.crc l.rest

abbrev pub decreases-loop-line : goal.decreases-loop-line
decreases-loop-line g l = length l.rest
