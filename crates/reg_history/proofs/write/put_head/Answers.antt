use Rattle.std.proofs.Common.{ℕ, List, [], ◌∷◌, ◌++◌, codes, subst, length}
use Rattle.std.specs.Fmt.{decimal}
use Rattle.reg_text.specs.Writing.{Puts}
use Rattle.reg_text.specs.Lines.{lines_by}
use Rattle.reg_history.proofs.Writing.{head_text, puts_four}
use Rattle.reg_history.proofs.write.put_head.Goals as goal

pub returns : goal.returns
returns g c =
    let held = g.W.Write.contents in
    let front = c.args.front.now in
    let names = c.args.names.now in
    let N : ℕ → Type 0 = λ n. Puts held c.put_count.new.sink c.put_count-2.new.sink (codes "registers " ++ decimal n ++ 10 ∷ []) in
    let P : List ℕ → Type 0 = λ l. Puts held c.args.sink.now c.put_names.new.sink l in
    subst P (head_text front c.args.processes names)
    (puts_four held c.args.sink.now c.put_line.new.sink c.put_count.new.sink c.put_count-2.new.sink c.put_names.new.sink
    (codes "front " ++ front ++ 10 ∷ []) (codes "processes " ++ decimal c.args.processes ++ 10 ∷ []) (codes "registers " ++ decimal (length names) ++ 10 ∷ []) (lines_by (λ name. name) names)
    c.put_line.ensures c.put_count.ensures (subst N c.count.ensures.value c.put_count-2.ensures) c.put_names.ensures)
