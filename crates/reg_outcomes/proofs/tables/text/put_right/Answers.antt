use Rattle.std.proofs.Common.{◌≡◌, ◌-◌, ◌∙◌, ap, length, replicate}
use Rattle.std.specs.Fmt.{decimal}
use Rattle.reg_text.specs.Columns.{to_right}
use Rattle.reg_text.proofs.Sent.{puts_two, puts_as}
use Rattle.reg_outcomes.proofs.tables.text.put_right.Goals as goal

pub returns : goal.returns
returns g c =
    let held = g.W.Write.contents in
    let ds = c.as_bytes-digits.result.now in
    let is : ds ≡ decimal c.args.number = c.as_bytes-digits.ensures.value ∙ c.format.ensures.text in
    puts_as held c.args.sink.now c.put.new.self (to_right c.args.places ds) (to_right c.args.places (decimal c.args.number)) (ap (to_right c.args.places) is)
    (puts_two held c.args.sink.now c.put_spaces.new.sink c.put.new.self (replicate (c.args.places - length ds) 32) ds
    (puts_as held c.args.sink.now c.put_spaces.new.sink (replicate c.saturating_sub.result 32) (replicate (c.args.places - length ds) 32) (ap (λ n. replicate n 32) c.saturating_sub.ensures) c.put_spaces.ensures) c.put.ensures)
