use Rattle.std.proofs.Common.{◌++◌, ◌∷◌, [], ℕ, List, codes, Option, Some, ap, sym, append-nil}
use Rattle.std.specs.Fmt.{decimal}
use Rattle.reg_text.proofs.Sent.{puts_as}
use Rattle.reg_text.specs.Lines.{text_of}
use Rattle.reg_outcomes.specs.TableText.{undrawn_lines}
use Rattle.reg_outcomes.proofs.tables.text.put_undrawn.Goals as goal

abbrev text_in : Option ℕ → List ℕ
text_in o = text_of (undrawn_lines o)

pub returns-in-Some : goal.returns-in-Some
returns-in-Some g c =
    let held = g.W.Write.contents in
    let line : List ℕ = (codes "never drawn " ++ decimal c.in-Some.count) ++ 10 ∷ [] in
    puts_as held c.args.sink.now c.put_count.new.sink (text_in (Some c.in-Some.count)) (text_in c.args.undrawn) (ap text_in (sym c.in-Some.is))
    (puts_as held c.args.sink.now c.put_count.new.sink line (text_in (Some c.in-Some.count)) (sym (append-nil line)) c.put_count.ensures)
