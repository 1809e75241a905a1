use Rattle.std.proofs.Common.{◌≡◌, ◌++◌, ◌∷◌, take}
use Rattle.std.specs.Int.{w64, to_be_bytes}
use Rattle.reg_node.specs.Chapters.{flags_of, numbers_bytes}
use Rattle.reg_node.proofs.chapters.Told.bytes.Given as goal

-- the numbers so far
abbrev pub invariant-loop-count : goal.invariant-loop-count
invariant-loop-count g l =
    l.bytes.items ≡ flags_of l.self ∷ (to_be_bytes w64 l.self.put ++ numbers_bytes (take l.count-index l.self.accepted))
