use Rattle.std.proofs.Common.{◌≡◌, ◌≤◌, ◌++◌, ◌∷◌, [], List, ℕ, length, map, take, get_or, ap, sym, ◌∙◌, take_all}
use Rattle.std.specs.List.{flat_map}
use Rattle.std.proofs.lemmas.List.Folds.{flat_map-map}
use Rattle.reg_text.proofs.Sent.{puts_as}
use Rattle.reg_text.specs.Lines.{text_of}
use Rattle.reg_outcomes.specs.PlayTables.{Line}
use Rattle.reg_outcomes.specs.TableText.{line_text}
use Rattle.reg_outcomes.proofs.Writing.{puts_next}
use Rattle.reg_outcomes.proofs.tables.text.put_rows.Goals as goal

pub loop-row-preserved : goal.loop-row-preserved
loop-row-preserved g c =
    let held = g.W.Write.contents in
    let here = get_or c.args.rows.now c.loop-row.row-index c.row-item.result in
    puts_next held c.args.sink.now c.loop-row.sink c.put_row.new.sink (λ r. line_text r ++ 10 ∷ []) c.args.rows.now c.loop-row.row-index c.row-item.result c.loop-row-test.true c.loop-row.invariant
    (puts_as held c.loop-row.sink c.put_row.new.sink (line_text c.row-item.result ++ 10 ∷ []) (line_text here ++ 10 ∷ []) (ap (λ (r : Line). line_text r ++ 10 ∷ []) c.row-item.is) c.put_row.ensures)

all_lines : (ls : List Line) (i : ℕ) → length ls ≤ i
    → flat_map (λ r. line_text r ++ 10 ∷ []) (take i ls) ≡ text_of (map line_text ls)
all_lines ls i le = ap (flat_map (λ (r : Line). line_text r ++ 10 ∷ [])) (take_all i ls le) ∙ sym (flat_map-map (λ line. line ++ 10 ∷ []) line_text ls)

pub returns : goal.returns
returns g c =
    puts_as g.W.Write.contents c.args.sink.now c.loop-row.sink _ _ (all_lines c.args.rows.now c.loop-row.row-index c.loop-row-test.false) c.loop-row.invariant
