use Rattle.std.proofs.Common.{arith, ◌<◌, ◌++◌, ◌∷◌, [], length, List, ℕ, subst}
use Rattle.reg_text.specs.Writing.{Puts}
use Rattle.reg_text.proofs.Lining.{puts_line}
use Rattle.reg_history.proofs.write.put_names.Goals as goal

pub loop-place-preserved : goal.loop-place-preserved
loop-place-preserved g c =
    let held = g.W.Write.contents in
    let within : c.loop-place.place < length c.args.names.now = omega arith in
    let P : List ℕ → Type 0 = λ l. Puts held c.loop-place.sink c.put_line.new.sink (l ++ 10 ∷ []) in
    puts_line held c.args.sink.now c.loop-place.sink c.put_line.new.sink (λ name. name) c.args.names.now c.loop-place.place [] within c.loop-place.invariant
    (subst P c.name_at-name.ensures c.put_line.ensures)
