use Rattle.std.proofs.Common.{◌≡◌, ◌++◌, map, drop}
use Rattle.reg_c.specs.LogMerges.{parts}
use Rattle.reg_c.proofs.log_merges.parts.Given as goal

-- the parts so far, and those of the rest
abbrev pub invariant-loop-length : goal.invariant-loop-length
invariant-loop-length l =
    map (λ t. t.now) l.parts.items ++ parts (drop l.length-index l.lengths) l.rest ≡ parts l.lengths l.bytes
