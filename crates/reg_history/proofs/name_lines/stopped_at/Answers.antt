use Rattle.std.proofs.Common.{◌≡◌, ℕ, None, Some, refl, ap, sym, ◌∙◌}
use Rattle.std.proofs.lemmas.Option.{same_Some}
use Rattle.reg_base.specs.declared.naming.NamesFault.TheVariants.{SameName}
use Rattle.reg_history.proofs.name_lines.stopped_at.Goals as goal
use Rattle.reg_history.proofs.name_lines.stopped_at.Goals.{in-Ok, in-Err}

none_some : (place : ℕ) → None ≡ Some (SameName place) → ⊥
none_some place h = cc

pub returns-then-eq-clause-memory : goal.returns-then-eq-clause-memory
returns-then-eq-clause-memory g c = λ same. same

pub returns-then-eq-clause-other : goal.returns-then-eq-clause-other
returns-then-eq-clause-other g c = λ none. refl

pub returns-clause-same : goal.returns-clause-same
returns-clause-same g c = λ place stopped named.
    elim c.match-new.branch [
      | in-Ok w ↦ absurd (none_some place (sym w.in-Ok.ensures.1 ∙ named))
      | in-Err w ↦ let told = w.first_fault.ensures.same place (same_Some _ _ (sym w.in-Err.ensures ∙ named)) in (told.0, w.result-is ∙ told.1, told.2)
    ]

pub returns-clause-other : goal.returns-clause-other
returns-clause-other g c = λ none.
    elim c.match-new.branch [ in-Ok w ↦ w.result-is | in-Err w ↦ w.result-is ∙ w.first_fault.ensures.other (λ place e. none place (w.in-Err.ensures ∙ ap Some e)) ]
