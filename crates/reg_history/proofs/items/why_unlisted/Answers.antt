use Rattle.std.proofs.Common.{refl, sym, ◌∙◌}
use Rattle.reg_text.proofs.Formed.{no_truth}
use Rattle.reg_history.proofs.items.why_unlisted.Goals as goal

pub returns-then-has_form-clause-range : goal.returns-then-has_form-clause-range
returns-then-has_form-clause-range g c = λ formed. refl

pub returns-then-has_form-clause-form : goal.returns-then-has_form-clause-form
returns-then-has_form-clause-form g c = λ none. absurd (none (c.has_form.ensures.0 c.if-has_form.true))

pub returns-else-has_form-clause-range : goal.returns-else-has_form-clause-range
returns-else-has_form-clause-range g c = λ formed. no_truth (sym c.if-has_form.false ∙ c.has_form.ensures.1 formed)

pub returns-else-has_form-clause-form : goal.returns-else-has_form-clause-form
returns-else-has_form-clause-form g c = λ none. refl
