use Rattle.std.proofs.Common.{ℕ, List, ◌∷◌, [], codes, subst}
use Rattle.reg_front.specs.Table.{front_name}
use Rattle.reg_text.specs.Writing.{Puts}
use Rattle.reg_text.proofs.Sent.{puts_three}
use Rattle.reg_inputs.proofs.schedule_text.put_front.Goals as goal

pub returns : goal.returns
returns g c =
    let held = g.W.Write.contents in
    let P : List ℕ → Type 0 = λ l. Puts held c.put.new.self c.put_name.new.sink (32 ∷ l) in
    puts_three held c.args.sink.now c.put.new.self c.put_name.new.sink c.put-2.new.self (codes "front") (32 ∷ front_name c.args.front) (10 ∷ []) c.put.ensures (subst P c.name.ensures c.put_name.ensures) c.put-2.ensures
