use Rattle.std.proofs.Common.{◌≡◌, ◌++◌, drop}
use Rattle.reg_judge.specs.Keys.{rows_of_key}
use Rattle.reg_judge.proofs.rulings.instead.rows_at.Given as goal

abbrev pub invariant-loop-row : goal.invariant-loop-row
invariant-loop-row g l = l.part.items ++ rows_of_key l.key (drop l.row-index l.rows) ≡ rows_of_key l.key l.rows
