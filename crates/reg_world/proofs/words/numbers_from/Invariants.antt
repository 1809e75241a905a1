use Rattle.std.proofs.Common.{◌≡◌, length, take}
use Rattle.reg_base.specs.declared.limits.TheConstants.{MOST_RESENT}
use Rattle.reg_world.specs.Words.{data_slots}
use Rattle.reg_world.proofs.words.numbers_from.Given as goal

abbrev pub invariant-loop-place : goal.invariant-loop-place
invariant-loop-place l = (length l.words ≡ MOST_RESENT) × (take l.place l.words ≡ data_slots l.first l.place)
