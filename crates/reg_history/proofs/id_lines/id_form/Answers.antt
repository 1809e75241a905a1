use Rattle.std.proofs.Common.{ap, sym, ◌∙◌}
use Rattle.reg_text.specs.Forms.{is_numeral}
use Rattle.reg_history.proofs.Formed.{id_formed}
use Rattle.reg_history.proofs.id_lines.id_form.Goals as goal

pub returns-clause-whole : goal.returns-clause-whole
returns-clause-whole c = λ p n h.
    let first = c.in_ok-digits.ensures.whole p n h.0 h.2 in
    c.form.ensures.1 (c.is_numeral.ensures ∙ ap is_numeral first.1 ∙ h.1)

pub returns-clause-read : goal.returns-clause-read
returns-clause-read c = λ h. id_formed c.args.line.now _ c.in_ok-digits.digits.now c.in_ok-digits.ensures.read.0 c.in_ok-digits.ensures.read.1 (sym c.is_numeral.ensures ∙ c.form.ensures.0 h)
