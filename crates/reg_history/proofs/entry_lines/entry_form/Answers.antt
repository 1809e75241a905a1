use Rattle.std.proofs.Common.{List, ℕ, refl, inl, sym, ◌∙◌, subst}
use Rattle.reg_text.proofs.Formed.{no_truth}
use Rattle.reg_history.specs.LineForms.{HasTailForm, IsTailWhy}
use Rattle.reg_history.proofs.entry_lines.entry_form.Goals as goal

pub returns-in_err-at-clause-whole : goal.returns-in_err-at-clause-whole
returns-in_err-at-clause-whole g c = λ h. absurd (c.in_err-at.ensures.whole h.0 h.1 h.2 h.3 h.4)

pub returns-in_err-at-clause-beyond : goal.returns-in_err-at-clause-beyond
returns-in_err-at-clause-beyond g c =
    λ at process number rest columns beyond. absurd (c.in_err-at.ensures.whole at process number rest columns)

pub returns-in_err-at-clause-within : goal.returns-in_err-at-clause-within
returns-in_err-at-clause-within g c =
    λ at process number rest columns inside. absurd (c.in_err-at.ensures.whole at process number rest columns)

pub returns-in_err-why-clause-whole : goal.returns-in_err-why-clause-whole
returns-in_err-why-clause-whole g c = λ h.
    let same = c.in_ok-at.ensures.whole h.0 h.1 h.2 h.3 h.4 in
    no_truth (c.in_err-why.ensures.whole (subst (λ (l : List ℕ). HasTailForm c.args.version l) (sym same.3) h.5))

pub returns-then-columns_fit-clause-read : goal.returns-then-columns_fit-clause-read
returns-then-columns_fit-clause-read g c =
    ((c.in_ok-at.at.now, c.in_ok-at.process.now, c.in_ok-at.number.now, c.in_ok-at.rest.now, c.in_ok-at.ensures.read, c.in_ok-why.ensures.read.0), c.in_ok-why.ensures.read.2)

pub returns-then-columns_fit-clause-whole : goal.returns-then-columns_fit-clause-whole
returns-then-columns_fit-clause-whole g c = λ h. refl

pub returns-then-columns_fit-clause-beyond : goal.returns-then-columns_fit-clause-beyond
returns-then-columns_fit-clause-beyond g c = λ at process number rest columns beyond.
    let same = c.in_ok-at.ensures.whole at process number rest columns in
    let inside = c.columns_fit.ensures.0 c.if-columns_fit.true in
    absurd (beyond (inside.0, inside.1, inside.2, sym same.0 ∙ inside.3, sym same.1 ∙ inside.4, sym same.2 ∙ inside.5, inside.6))

pub returns-then-columns_fit-clause-within : goal.returns-then-columns_fit-clause-within
returns-then-columns_fit-clause-within g c = λ at process number rest columns inside.
    let same = c.in_ok-at.ensures.whole at process number rest columns in
    subst (λ (l : List ℕ). IsTailWhy c.args.names.now l c.in_ok-why.why) same.3 c.in_ok-why.ensures.read.1

pub returns-else-columns_fit-clause-read : goal.returns-else-columns_fit-clause-read
returns-else-columns_fit-clause-read g c =
    ((c.in_ok-at.at.now, c.in_ok-at.process.now, c.in_ok-at.number.now, c.in_ok-at.rest.now, c.in_ok-at.ensures.read, c.in_ok-why.ensures.read.0), inl refl)

pub returns-else-columns_fit-clause-whole : goal.returns-else-columns_fit-clause-whole
returns-else-columns_fit-clause-whole g c = λ h. refl

pub returns-else-columns_fit-clause-beyond : goal.returns-else-columns_fit-clause-beyond
returns-else-columns_fit-clause-beyond g c = λ at process number rest columns beyond. refl

pub returns-else-columns_fit-clause-within : goal.returns-else-columns_fit-clause-within
returns-else-columns_fit-clause-within g c = λ at process number rest columns inside.
    let same = c.in_ok-at.ensures.whole at process number rest columns in
    no_truth (sym c.if-columns_fit.false ∙ c.columns_fit.ensures.1 (inside.0, inside.1, inside.2, same.0 ∙ inside.3, same.1 ∙ inside.4, same.2 ∙ inside.5, inside.6))
