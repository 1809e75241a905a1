use Rattle.std.proofs.Common.{◌≡◌, ◌++◌, drop, take, length, ◌-◌, ap, ◌∙◌}
use Rattle.std.specs.Fmt.{decimal}
use Rattle.reg_text.specs.Columns.{to_left}
use Rattle.reg_history.proofs.Columned.{left_built}
use Rattle.reg_text.proofs.Sent.{puts_two, puts_as}
use Rattle.reg_history.proofs.write.put_left.Goals as goal
use Rattle.reg_text.proofs.Parts.{rest_of}

pub returns : goal.returns
returns g c =
    let marked = c.args.marked.now in
    let places = c.args.places in
    let ds = c.as_bytes-digits.result.now in
    let k = c.min.result in
    let digits : ds ≡ decimal c.args.number = c.as_bytes-digits.ensures.value ∙ c.format.ensures.text in
    let joined : ds ++ take (length marked - k) (drop k marked) ≡ to_left places (decimal c.args.number) ++ drop places marked =
    ap (λ l. ds ++ l) (rest_of marked k ∙ ap (λ j. drop j marked) c.min.ensures) ∙ left_built places ds marked c.requires ∙ ap (λ l. to_left places l ++ drop places marked) digits in
    let held = g.W.Write.contents in
    let rest = take (length marked - k) (drop k marked) in
    puts_as held c.args.sink.now c.put-2.new.self (ds ++ rest) (to_left places (decimal c.args.number) ++ drop places marked) joined
    (puts_two held c.args.sink.now c.put.new.self c.put-2.new.self ds rest c.put.ensures c.put-2.ensures)
