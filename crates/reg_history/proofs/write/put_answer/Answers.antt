use Rattle.std.proofs.Common.{◌++◌, ◌∷◌, [], codes, ap, sym}
use Rattle.std.specs.Fmt.{decimal}
use Rattle.reg_text.proofs.Sent.{puts_as}
use Rattle.reg_text.specs.Ops.{answer_text}
use Rattle.reg_history.proofs.write.put_answer.Goals as goal

pub returns-in-Value : goal.returns-in-Value
returns-in-Value g c =
    puts_as g.W.Write.contents c.args.sink.now c.put_value.new.sink (codes "value " ++ (decimal c.in-Value.value ++ 10 ∷ [])) (answer_text c.args.answer ++ 10 ∷ []) (ap (λ a. answer_text a ++ 10 ∷ []) (sym c.in-Value.is)) c.put_value.ensures
