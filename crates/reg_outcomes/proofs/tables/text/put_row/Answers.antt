use Rattle.std.proofs.Common.{◌++◌, ◌∷◌, [], ap}
use Rattle.std.specs.List.{flat_map}
use Rattle.reg_text.proofs.Sent.{puts_as}
use Rattle.reg_outcomes.specs.PlayTables.{Line}
use Rattle.reg_outcomes.specs.AllText.{told_text}
use Rattle.reg_outcomes.specs.TableText.{line_text}
use Rattle.reg_outcomes.proofs.Putting.{puts_line}
use Rattle.reg_outcomes.proofs.tables.text.put_row.Goals as goal

pub returns : goal.returns
returns g c =
    let held = g.W.Write.contents in
    let line : Line = record { outcome = c.row.inside.outcome.items; tally = c.row.inside.tally } in
    let outcome = puts_as held c.put.new.self c.put_outcome.new.sink (flat_map told_text c.as_slice.result.now) (flat_map told_text line.outcome) (ap (flat_map told_text) c.as_slice.ensures.value) c.put_outcome.ensures in
    puts_as held c.args.sink.now c.put-2.new.self (line_text line ++ 10 ∷ []) (line_text c.args.row.now ++ 10 ∷ []) (ap (λ (l : Line). line_text l ++ 10 ∷ []) c.row.view_is)
    (puts_line held line c.args.sink.now c.put_right.new.sink c.put.new.self c.put_outcome.new.sink c.put_play.new.sink c.put-2.new.self c.put_right.ensures c.put.ensures outcome c.put_play.ensures c.put-2.ensures)
