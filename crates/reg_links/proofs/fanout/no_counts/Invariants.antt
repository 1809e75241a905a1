use Rattle.std.proofs.Common.{◌≡◌, replicate}
use Rattle.reg_links.proofs.fanout.no_counts.Given as goal

abbrev pub invariant-loop-i : goal.invariant-loop-i
invariant-loop-i g l = l.counts.items ≡ replicate l._i 0
