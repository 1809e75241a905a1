use Rattle.std.proofs.Common.{◌≡◌, ◌++◌, map}
use Rattle.reg_outcomes.specs.Counts.{line_of}
use Rattle.reg_outcomes.proofs.tables.rows.listed.Given as goal

-- the lines so far, and those of the entries that are left
abbrev pub invariant-loop-outcome : goal.invariant-loop-outcome
invariant-loop-outcome g l =
    l.rows.items ++ map (line_of (λ k. k.items)) l.outcome-iterator ≡ map (line_of (λ k. k.items)) l.fn.told.entries
