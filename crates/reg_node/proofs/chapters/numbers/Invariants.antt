use Rattle.std.proofs.Common.{◌≡◌, ◌*◌, length, take}
use Rattle.reg_node.specs.Chapters.{numbers_bytes}
use Rattle.reg_node.proofs.chapters.numbers.Given as goal

-- the numbers so far
abbrev pub invariant-loop-place : goal.invariant-loop-place
invariant-loop-place g l =
    (length l.numbers.items ≡ l.place) × (take (l.place * 8) l.bytes ≡ numbers_bytes l.numbers.items)
