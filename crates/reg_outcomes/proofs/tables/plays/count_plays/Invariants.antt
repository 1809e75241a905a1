use Rattle.std.proofs.Common.{◌≡◌, List}
use Rattle.reg_outcomes.specs.PlayTables.{Seen}
use Rattle.reg_outcomes.specs.Counts.{IsCounted}
use Rattle.reg_outcomes.specs.Outcomes.{AreSeen}
use Rattle.reg_outcomes.proofs.tables.plays.count_plays.Given as goal

-- what is known of the plays so far was counted
abbrev pub invariant-loop-turn : goal.invariant-loop-turn
invariant-loop-turn g l = (seen : List Seen) × AreSeen g.F.FrontEnd.start l.work l.turn seen × IsCounted (λ v. v.items) seen l.tallies.told l.tallies.unfinished × (l.first ≡ l.work.seed)
