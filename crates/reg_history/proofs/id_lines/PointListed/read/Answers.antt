use Rattle.std.proofs.Common.{ℕ, ◌≡◌, ◌∷◌, ◌++◌, codes, Some, refl, ap, ◌∙◌, arith}
use Rattle.std.specs.Fmt.{decimal}
use Rattle.std.proofs.lemmas.Option.{same_Some}
use Rattle.reg_checkers.specs.declared.entries.Point.{Point}
use Rattle.reg_history.proofs.id_lines.PointListed.read.Goals as goal

same_point : (p : Point) (process number at : ℕ) → process ≡ p.id.process → number ≡ p.id.number → Some at ≡ Some p.at
    → Some (record { id = record { process = process; number = number }; at = at }) ≡ Some p
same_point p process number at a b c = rw (a, b, same_Some at p.at c) refl

pub returns-in_err-process-clause-whole : goal.returns-in_err-process-clause-whole
returns-in_err-process-clause-whole c = λ p fits e. absurd (c.in_err-process.ensures.whole p.id.process _ fits.0.0 e)

pub returns-in_err-number-clause-whole : goal.returns-in_err-number-clause-whole
returns-in_err-number-clause-whole c = λ p fits e.
    let first = c.in_ok-process.ensures.whole p.id.process _ fits.0.0 e in
    absurd (c.in_err-number.ensures.whole p.id.number _ (omega (arith, fits.0.1)) first.1)

pub returns-in_err-event-clause-whole : goal.returns-in_err-event-clause-whole
returns-in_err-event-clause-whole c = λ p fits e.
    let first = c.in_ok-process.ensures.whole p.id.process _ fits.0.0 e in
    let second = c.in_ok-number.ensures.whole p.id.number _ (omega (arith, fits.0.1)) first.1 in
    absurd (c.in_err-event.ensures.whole _ second.1)

pub returns-clause-read : goal.returns-clause-read
returns-clause-read c =
    let process = decimal c.in_ok-process.process in
    let number = decimal c.in_ok-number.number in (
      c.in_ok-process.ensures.read.1 ∙ ap (λ l. codes "p" ++ (process ++ 32 ∷ (codes "#" ++ l))) (c.in_ok-number.ensures.read.0 ∙ ap (λ l. number ++ 32 ∷ l) (c.in_ok-event.ensures.read ∙ ap (λ l. codes "at " ++ l) c.in_ok-at.ensures.read.0)),
      ((c.in_ok-process.ensures.read.0, omega (arith, c.in_ok-number.ensures.read.1)), c.in_ok-at.ensures.read.1),
    )

pub returns-clause-whole : goal.returns-clause-whole
returns-clause-whole c = λ p fits e.
    let first = c.in_ok-process.ensures.whole p.id.process _ fits.0.0 e in
    let second = c.in_ok-number.ensures.whole p.id.number _ (omega (arith, fits.0.1)) first.1 in
    let third = c.in_ok-event.ensures.whole _ second.1 in
    same_point p c.in_ok-process.process c.in_ok-number.number c.in_ok-at.at first.0 second.0 (c.in_ok-at.ensures.whole p.at fits.1 third)
