use Rattle.std.proofs.Common.{ℕ, ◌≡◌, ◌<◌, ◌^◌, List, [], ◌∷◌, length, get_or, ap, sym, ◌∙◌, arith}
use Rattle.std.proofs.lemmas.Option.{none-some}
use Rattle.std.specs.Fmt.{decimal}
use Rattle.reg_text.proofs.Formed.{number_form, no_truth}
use Rattle.reg_text.proofs.heads.read_count.Goals as goal

no_lines : {A : Type 0} {line : List ℕ} {rest : List (List ℕ)} → [] ≡ line ∷ rest → A
no_lines e = absurd (omega (arith, ap length e))

pub returns-in_default-clause-whole : goal.returns-in_default-clause-whole
returns-in_default-clause-whole c = λ n rest few e. no_lines (sym c.in_default.ensures.line ∙ e)

pub returns-in_default-clause-range : goal.returns-in_default-clause-range
returns-in_default-clause-range c = λ digits rest ok e. no_lines (sym c.in_default.ensures.line ∙ e)

pub returns-in_default-clause-form : goal.returns-in_default-clause-form
returns-in_default-clause-form c = λ line rest e none. no_lines (sym c.in_default.ensures.line ∙ e)

pub returns-in_default-skip-clause-whole : goal.returns-in_default-skip-clause-whole
returns-in_default-skip-clause-whole c = λ n rest few e. absurd (c.in_default-skip.ensures.whole (decimal n) (ap (λ l. get_or l 0 []) (sym c.in-Some.ensures.line ∙ e)))

pub returns-in_default-skip-clause-range : goal.returns-in_default-skip-clause-range
returns-in_default-skip-clause-range c = λ digits rest ok e. absurd (c.in_default-skip.ensures.whole digits (ap (λ l. get_or l 0 []) (sym c.in-Some.ensures.line ∙ e)))

pub returns-in_default-skip-clause-end : goal.returns-in_default-skip-clause-end
returns-in_default-skip-clause-end c = λ e. no_lines (sym e ∙ c.in-Some.ensures.line)

pub returns-in_default-numeral_within-clause-whole : goal.returns-in_default-numeral_within-clause-whole
returns-in_default-numeral_within-clause-whole c = λ n rest few e.
    absurd (none-some n (c.in_default-numeral_within.ensures.whole n few (c.in-Some-skip.ensures.whole (decimal n) (ap (λ l. get_or l 0 []) (sym c.in-Some.ensures.line ∙ e)))))

pub returns-in_default-numeral_within-clause-end : goal.returns-in_default-numeral_within-clause-end
returns-in_default-numeral_within-clause-end c = λ e. no_lines (sym e ∙ c.in-Some.ensures.line)

pub returns-clause-end : goal.returns-clause-end
returns-clause-end c = λ e. no_lines (sym e ∙ c.in-Some.ensures.line)

pub returns-clause-form : goal.returns-clause-form
returns-clause-form c = λ line rest e none.
    let n = c.in-Some-numeral_within.number in
    let read = c.in-Some-numeral_within.ensures.read in
    let small : n < 2 ^ 64 = omega (arith, c.ranges.limit.fits, read.1) in
    let same : line ≡ c.in-Some.line.now = ap (λ l. get_or l 0 []) (sym e ∙ c.in-Some.ensures.line) in
    let good = number_form c.in-Some-skip.digits.now n small read.0 in
    let bad = none c.in-Some-skip.digits.now (same ∙ c.in-Some-skip.ensures.read) in
    no_truth (sym bad ∙ good)
