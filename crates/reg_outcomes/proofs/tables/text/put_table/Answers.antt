use Rattle.std.proofs.Common.{◌++◌, ◌∷◌, [], List, length, map, codes, ap}
use Rattle.std.specs.Fmt.{decimal}
use Rattle.reg_text.proofs.Sent.{puts_as}
use Rattle.reg_text.specs.Lines.{text_of}
use Rattle.reg_outcomes.specs.PlayTables.{Line}
use Rattle.reg_outcomes.specs.TableText.{line_text}
use Rattle.reg_outcomes.proofs.Putting.{puts_table}
use Rattle.reg_outcomes.proofs.tables.text.put_table.Goals as goal

pub returns : goal.returns
returns g c =
    let held = g.W.Write.contents in
    let told = c.args.outcomes.now in
    let rows : List Line = told.rows.items in
    let same = c.as_slice-rows.ensures.value in
    puts_table held c.args.plays told.unfinished told.undrawn rows c.args.sink.now c.put_count.new.sink c.put_count-2.new.sink c.put_rows.new.sink c.put_count-3.new.sink c.put_undrawn.new.sink c.put_count.ensures
    (puts_as held c.put_count.new.sink c.put_count-2.new.sink ((codes "outcomes " ++ decimal (length c.as_slice-rows.result.now)) ++ 10 ∷ []) ((codes "outcomes " ++ decimal (length rows)) ++ 10 ∷ []) (ap (λ (l : List Line). (codes "outcomes " ++ decimal (length l)) ++ 10 ∷ []) same) c.put_count-2.ensures)
    (puts_as held c.put_count-2.new.sink c.put_rows.new.sink (text_of (map line_text c.as_slice-rows.result.now)) (text_of (map line_text rows)) (ap (λ (l : List Line). text_of (map line_text l)) same) c.put_rows.ensures)
    c.put_count-3.ensures c.put_undrawn.ensures
