use Rattle.std.proofs.Common.{◌≡◌, map, take}
use Rattle.reg_world.specs.Witnesses.{ranked_read}
use Rattle.reg_world.proofs.witnesses.ranked_reads.Given as goal

abbrev pub invariant-loop-read : goal.invariant-loop-read
invariant-loop-read g l = l.ranked.items ≡ map ranked_read (take l.read-index l.reads)
