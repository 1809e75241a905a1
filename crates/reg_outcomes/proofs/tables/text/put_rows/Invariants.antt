use Rattle.std.proofs.Common.{take, ◌++◌, ◌∷◌, []}
use Rattle.std.specs.List.{flat_map}
use Rattle.reg_text.specs.Writing.{Puts}
use Rattle.reg_outcomes.specs.TableText.{line_text}
use Rattle.reg_outcomes.proofs.tables.text.put_rows.Given as goal

-- the lines so far
abbrev pub invariant-loop-row : goal.invariant-loop-row
invariant-loop-row g l =
    Puts g.W.Write.contents l.initial.sink l.sink (flat_map (λ r. line_text r ++ 10 ∷ []) (take l.row-index l.rows))
