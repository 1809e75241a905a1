use Rattle.std.proofs.Common.{◌<◌, ℕ}
use Rattle.reg_checkers.specs.History.{IsAt}
use Rattle.reg_records.specs.Playing.{frames_on}
use Rattle.reg_records.proofs.finding.first_place.Given as goal

abbrev pub invariant-loop-place : goal.invariant-loop-place
invariant-loop-place g l =
    (k : ℕ) → k < l.place → IsAt (frames_on g.F.FrontEnd.start l.world l.fn.from l.fn.to) k l.frame → ⊥
