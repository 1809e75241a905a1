use Rattle.std.proofs.Common.{◌↔◌, length}
use Rattle.reg_node.specs.Headless.{IsPartAndZeros}
use Rattle.reg_node.proofs.transcripts.headless.is_part_and_zeros.Given as goal

-- the bytes before were those of the text
abbrev pub invariant-loop-first : goal.invariant-loop-first
invariant-loop-first l = IsPartAndZeros l.bytes l.text ↔ IsPartAndZeros l.rest l.left

abbrev pub decreases-loop-first : goal.decreases-loop-first
decreases-loop-first l = length l.rest
