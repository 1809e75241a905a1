use Rattle.std.proofs.Common.{Some, ap, rules}
use Rattle.std.specs.Int.{IsInRange}
use Rattle.reg_text.proofs.Shorts.{digit_read, one_digit}
use Rattle.reg_text.proofs.fields.digit.Goals as goal

pub returns-then-is_ascii_digit-clause-read : goal.returns-then-is_ascii_digit-clause-read
returns-then-is_ascii_digit-clause-read c =
    let here : IsInRange 48 57 c.args.byte = search rules in
    digit_read c.args.byte here

pub returns-then-is_ascii_digit-clause-whole : goal.returns-then-is_ascii_digit-clause-whole
returns-then-is_ascii_digit-clause-whole c = λ n small e. ap Some (one_digit c.args.byte n small e).1

pub returns-else-is_ascii_digit-clause-whole : goal.returns-else-is_ascii_digit-clause-whole
returns-else-is_ascii_digit-clause-whole c = λ n small e.
    let here : IsInRange 48 57 c.args.byte = (one_digit c.args.byte n small e).0 in
    let wrong : ⊥ = search (rules, here) in
    absurd wrong
