use Rattle.std.proofs.Common.{◌≡◌, take}
use Rattle.reg_node.specs.Messages.{spaced}
use Rattle.reg_node.specs.Seals.{crc_over, first_crc}
use Rattle.reg_node.proofs.messages.names_crc.Given as goal

-- the names so far
abbrev pub invariant-loop-place : goal.invariant-loop-place
invariant-loop-place g l = l.crc ≡ crc_over first_crc (spaced (take l.place l.names))
