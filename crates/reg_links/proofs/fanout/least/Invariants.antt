use Rattle.std.proofs.Common.{◌≡◌, drop}
use Rattle.reg_links.specs.Bounds.{least_from}
use Rattle.reg_links.proofs.fanout.least.Given as goal

-- the least so far, with the counts that are left
abbrev pub invariant-loop-count : goal.invariant-loop-count
invariant-loop-count l = least_from l.least (drop l.count-index l.counts) ≡ least_from l.next l.counts
