use Rattle.std.proofs.Common.{ℕ, List, ◌∷◌, [], codes, subst}
use Rattle.reg_front.specs.Table.{front_name}
use Rattle.reg_text.specs.Writing.{Puts}
use Rattle.reg_text.proofs.Sent.{puts_three}
use Rattle.reg_commands.specs.Layout.{quoted}
use Rattle.reg_commands.proofs.layout.laying.put_front.Goals as goal

pub returns : goal.returns
returns g c =
    let held = g.W.Write.contents in
    let P : List ℕ → Type 0 = λ name. Puts held c.put.new.self c.put_quoted.new.sink (quoted name) in
    puts_three held c.args.sink.now c.put.new.self c.put_quoted.new.sink c.put-2.new.self (codes "front = ") (quoted (front_name c.args.front)) (10 ∷ []) c.put.ensures (subst P c.name.ensures c.put_quoted.ensures) c.put-2.ensures
