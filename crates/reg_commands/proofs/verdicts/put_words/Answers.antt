use Rattle.std.proofs.Common.{◌++◌, ◌∷◌, [], sym, append_assoc}
use Rattle.reg_text.proofs.Sent.{puts_two, puts_as}
use Rattle.reg_commands.proofs.verdicts.put_words.Goals as goal

pub returns : goal.returns
returns g c =
    let held = g.W.Write.contents in
    let name = c.args.name.now in
    let words = c.args.words.now in
    puts_as held c.args.sink.now c.put-3.new.self (name ++ (words ++ 10 ∷ [])) ((name ++ words) ++ 10 ∷ []) (sym (append_assoc name words (10 ∷ [])))
    (puts_two held c.args.sink.now c.put.new.self c.put-3.new.self name (words ++ 10 ∷ [])
    (puts_as held c.args.sink.now c.put.new.self c.as_bytes.result.now name c.as_bytes.ensures.value c.put.ensures)
    (puts_two held c.put.new.self c.put-2.new.self c.put-3.new.self words (10 ∷ [])
    (puts_as held c.put.new.self c.put-2.new.self c.as_bytes-2.result.now words c.as_bytes-2.ensures.value c.put-2.ensures) c.put-3.ensures))
