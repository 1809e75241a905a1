use Rattle.std.proofs.Common.{◌∙◌}
use Rattle.reg_text.proofs.Spaces.{column_read, right_whole}
use Rattle.reg_text.proofs.fields.right_column.Goals as goal
use Rattle.reg_text.proofs.Parts.{rest_of}

pub returns-clause-read : goal.returns-clause-read
returns-clause-read c = column_read c.numeral.result c.args.bytes.now c.spaces_before-start.result c.spaces_before-start.ensures.count c.numeral.ensures.read

pub returns-clause-whole : goal.returns-clause-whole
returns-clause-whole c = λ n small e.
    let bs = c.args.bytes.now in
    let k = c.spaces_before-start.result in
    c.numeral.ensures.whole n small (rest_of bs k ∙ right_whole bs k n small c.spaces_before-start.ensures.count e)
