use Rattle.std.proofs.Common.{length, sym, ◌∙◌, ◌-◌}
use Rattle.std.specs.Fmt.{decimal}
use Rattle.reg_text.proofs.Digits.{column_read_left, left_found}
use Rattle.reg_text.proofs.fields.left_column.Goals as goal

pub returns-then-is_blank-clause-read : goal.returns-then-is_blank-clause-read
returns-then-is_blank-clause-read c =
    column_read_left c.numeral.result c.args.bytes.now c.digits_before-end.result c.digits_before-end.ensures.within (sym c.is_blank.ensures ∙ c.if-is_blank.true) c.numeral.ensures.read

pub returns-then-is_blank-clause-whole : goal.returns-then-is_blank-clause-whole
returns-then-is_blank-clause-whole c = λ n small e.
    let bs = c.args.bytes.now in
    c.numeral.ensures.whole n small (left_found bs c.digits_before-end.result (length bs - length (decimal n)) n small c.digits_before-end.ensures.count e).0

pub returns-else-is_blank-clause-whole : goal.returns-else-is_blank-clause-whole
returns-else-is_blank-clause-whole c = λ n small e.
    let bs = c.args.bytes.now in
    let found = (left_found bs c.digits_before-end.result (length bs - length (decimal n)) n small c.digits_before-end.ensures.count e).1 in
    let both = sym c.if-is_blank.false ∙ c.is_blank.ensures ∙ found in
    absurd (cc)
