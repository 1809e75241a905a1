use Rattle.std.proofs.Common.{◌≡◌, ◌++◌, ℕ, List, codes, refl}
use Rattle.std.specs.Fmt.{decimal}
use Rattle.reg_text.proofs.Sent.{puts_as, puts_three}
use Rattle.reg_outcomes.specs.AllText.{answer_text, value_text}
use Rattle.reg_outcomes.proofs.values.put_value.Goals as goal

regroup : (p n a : List ℕ) → (codes "p" ++ p) ++ ((codes " #" ++ n) ++ a) ≡ codes "p" ++ (p ++ (codes " #" ++ (n ++ a)))
regroup p n a = refl

pub returns : goal.returns
returns g c =
    let held = g.W.Write.contents in
    let t = c.args.told in
    puts_as held c.args.sink.now c.put_answer.new.sink ((codes "p" ++ decimal t.process) ++ ((codes " #" ++ decimal t.number) ++ answer_text t.answer)) (value_text t)
    (regroup (decimal t.process) (decimal t.number) (answer_text t.answer))
    (puts_three held c.args.sink.now c.put_number.new.sink c.put_number-2.new.sink c.put_answer.new.sink (codes "p" ++ decimal t.process) (codes " #" ++ decimal t.number) (answer_text t.answer)
    c.put_number.ensures c.put_number-2.ensures c.put_answer.ensures)
