use Rattle.std.proofs.Common.{ℕ, ◌-◌}
use Rattle.reg_records.specs.RestParts.{link_in, IsAgain, Passing}
use Rattle.reg_records.proofs.resting.pass_on.Given as goal

-- the frames before this one were taken
abbrev pub invariant-loop-number : goal.invariant-loop-number
invariant-loop-number g l = (passed : ℕ → ℕ → ℕ) → IsAgain g.F.FrontEnd.start passed l.initial.world l.from l.to → Passing g.F.FrontEnd.start passed l.initial.world l.from l.to (link_in g.F.FrontEnd.start l.initial.world l.from l.to).first (l.number - (l.end - l.count)) l.answer l.world
