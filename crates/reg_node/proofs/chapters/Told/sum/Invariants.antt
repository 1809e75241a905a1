use Rattle.std.proofs.Common.{◌≡◌, ◌+◌, ◌*◌, ◌≤◌, take}
use Rattle.std.specs.List.{sum}
use Rattle.reg_node.proofs.chapters.Told.sum.Given as goal

-- the sum so far
abbrev pub invariant-loop-count : goal.invariant-loop-count
invariant-loop-count g l = (l.sum ≡ l.self.put + sum (take l.count-index l.self.accepted)) × (l.sum ≤ (l.count-index + 1) * 18446744073709551615)
