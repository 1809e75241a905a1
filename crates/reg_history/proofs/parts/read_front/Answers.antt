use Rattle.std.proofs.Common.{ℕ, List, ◌∷◌, ◌++◌, codes, None, Some, inl, refl, ap, sym, ◌∙◌, subst}
use Rattle.std.specs.Str.{IsUtf8}
use Rattle.reg_text.proofs.Formed.{no_truth}
use Rattle.reg_history.specs.Reports.{is_front}
use Rattle.reg_text.proofs.Numbered.{asked_on}
use Rattle.reg_history.specs.Refusals.{IsNoFront}
use Rattle.reg_history.specs.declared.report_faults.ReadWhy.TheVariants.{Form, End}
use Rattle.reg_history.proofs.Lacking.{front_text}
use Rattle.reg_history.proofs.Stopping.{stops_first}
use Rattle.reg_history.proofs.Firsts.{none_first, first_line, other_lines}
use Rattle.reg_history.proofs.parts.read_front.Goals as goal

pub returns-in_default-clause-whole : goal.returns-in_default-clause-whole
returns-in_default-clause-whole g c = λ front rest ok e. none_first (sym c.in_default.ensures.line ∙ e)

pub returns-in_default-skip-clause-whole : goal.returns-in_default-skip-clause-whole
returns-in_default-skip-clause-whole g c =
    λ front rest ok e. absurd (c.in_default-skip.ensures.whole front (first_line (sym c.in-Some.ensures.line ∙ e)))

pub returns-then-not-is_front-clause-whole : goal.returns-then-not-is_front-clause-whole
returns-then-not-is_front-clause-whole g c = λ front rest ok e.
    let word = c.in-Some-skip.ensures.whole front (first_line (sym c.in-Some.ensures.line ∙ e)) in
    no_truth (sym c.if-not-is_front.true ∙ c.is_front.ensures ∙ ap is_front word ∙ ok)

pub returns-in-Ok-Some-clause-read : goal.returns-in-Ok-Some-clause-read
returns-in-Ok-Some-clause-read g c =
    let text = (rw c.in-Ok-Some.field-0-is at c.in-Ok-Some.ensures) in
    (c.in-Some.ensures.line ∙ ap (λ l. l ∷ c.next.new.self.left) (c.in-Some-skip.ensures.read ∙ ap (λ w. codes "front " ++ w) (sym text)), ap is_front text ∙ sym c.is_front.ensures ∙ c.if-not-is_front.false)

pub returns-in-Ok-Some-clause-whole : goal.returns-in-Ok-Some-clause-whole
returns-in-Ok-Some-clause-whole g c = λ front rest ok e.
    let text = (rw c.in-Ok-Some.field-0-is at c.in-Ok-Some.ensures) in
    let both = sym c.in-Some.ensures.line ∙ e in
    (text ∙ c.in-Some-skip.ensures.whole front (first_line both), other_lines both)

pub returns-in-Ok-None-clause-whole : goal.returns-in-Ok-None-clause-whole
returns-in-Ok-None-clause-whole g c = λ front rest ok e.
    let word = c.in-Some-skip.ensures.whole front (first_line (sym c.in-Some.ensures.line ∙ e)) in
    let P : List ℕ → Type 0 = λ l. IsUtf8 l in
    let not_text = (rw c.in-Ok-None.field-0-is at c.in-Ok-None.ensures) in
    absurd (not_text (subst P (sym word) (front_text front ok)))

pub returns-in-Err-clause-whole : goal.returns-in-Err-clause-whole
returns-in-Err-clause-whole g c = λ front rest ok e. refl

pub returns-in_default-clause-stopped : goal.returns-in_default-clause-stopped
returns-in_default-clause-stopped g c = stops_first IsNoFront c.args.lines.now c.next.new.self c.at_line.result End None c.at_line.ensures c.next.ensures.asked c.in_default.ensures.line refl

pub returns-in_default-skip-clause-stopped : goal.returns-in_default-skip-clause-stopped
returns-in_default-skip-clause-stopped g c =
    stops_first IsNoFront c.args.lines.now c.next.new.self c.at_line-in_default-skip.result Form (Some c.in-Some.line.now) c.at_line-in_default-skip.ensures c.next.ensures.asked (c.next.new.self.left, c.in-Some.ensures.line)
    (λ word e. absurd (c.in_default-skip.ensures.whole word e), refl)

pub returns-then-not-is_front-clause-stopped : goal.returns-then-not-is_front-clause-stopped
returns-then-not-is_front-clause-stopped g c =
    stops_first IsNoFront c.args.lines.now c.next.new.self c.at_line-then-not-is_front.result Form (Some c.in-Some.line.now) c.at_line-then-not-is_front.ensures c.next.ensures.asked (c.next.new.self.left, c.in-Some.ensures.line)
    (λ word e. sym (sym c.if-not-is_front.true ∙ c.is_front.ensures ∙ ap is_front (c.in-Some-skip.ensures.whole word e)), refl)

pub returns-in-Ok-Some-clause-on : goal.returns-in-Ok-Some-clause-on
returns-in-Ok-Some-clause-on g c = asked_on c.args.lines.now c.next.new.self c.in-Some.line.now c.next.new.self.left c.next.ensures.asked c.in-Some.ensures.line

pub returns-in-Ok-None-clause-stopped : goal.returns-in-Ok-None-clause-stopped
returns-in-Ok-None-clause-stopped g c =
    let not_text = (rw c.in-Ok-None.field-0-is at c.in-Ok-None.ensures) in
    absurd (not_text (front_text c.in-Some-skip.word.now (sym c.is_front.ensures ∙ c.if-not-is_front.false)))

pub returns-in-Err-clause-stopped : goal.returns-in-Err-clause-stopped
returns-in-Err-clause-stopped g c = inl refl
