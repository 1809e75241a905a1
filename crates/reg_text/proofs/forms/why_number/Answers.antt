use Rattle.std.proofs.Common.{sym, ◌∙◌}
use Rattle.reg_text.proofs.Formed.{number_form}
use Rattle.reg_text.proofs.forms.why_number.Goals as goal

pub returns-else-is_numeral-clause-number : goal.returns-else-is_numeral-clause-number
returns-else-is_numeral-clause-number c = λ n small e.
    let both = sym c.if-is_numeral.false ∙ c.is_numeral.ensures ∙ number_form c.args.bytes.now n small e in
    absurd (cc)
