use Rattle.std.proofs.Common.{None, Some, refl, sym, ap, inl, ◌∙◌, subst, arith, rules, ◌≡◌, ℕ, ◌+◌, List, [], ◌∷◌}
use Rattle.std.proofs.Common.{◌++◌, true, string_bytes}
use Rattle.std.proofs.lemmas.List.{map-append}
use Rattle.reg_base.specs.Names.{is_name, texts}
use Rattle.reg_text.proofs.Numbered.{asked_on, goes_on, stays}
use Rattle.reg_text.proofs.Turns.{Taken, begins, steps, ended, refused, all_read, only_read}
use Rattle.reg_history.specs.declared.report_faults.ReadWhy.TheVariants.{End}
use Rattle.reg_history.proofs.Repeats.{wrong_name}
use Rattle.reg_history.proofs.name_lines.read_spelt.Goals as goal

abbrev Spelled : List (List ℕ) → List ℕ → Type 0
Spelled _ n = is_name n ≡ true

pub loop-place-init : goal.loop-place-init
loop-place-init g c =
    let none : c.new-names.result.items ≡ [] = search rules in
    let P : List (List ℕ) → Type 0 = λ l. Taken (λ n. n) Spelled c.args.count c.args.lines.now.left c.args.lines.now.left l 0 in
    (subst P (sym (ap texts none)) (begins (λ n. n) Spelled c.args.count c.args.lines.now.left), stays c.args.lines.now)

pub returns-in_default-clause-whole : goal.returns-in_default-clause-whole
returns-in_default-clause-whole g c = λ ys rest b.
    absurd (ended (λ n. n) Spelled c.args.count c.args.lines.now.left c.loop-place.lines.left (texts c.loop-place.names.items) c.loop-place._place c.loop-place-test.true c.loop-place.invariant.0 c.in_default.ensures.line ys rest b)

pub returns-in-Ok-None-clause-whole : goal.returns-in-Ok-None-clause-whole
returns-in-Ok-None-clause-whole g c = λ ys rest b.
    let bad = (rw c.in-Ok-None.field-0-is at c.in-Ok-None.ensures) in
    absurd (refused (λ n. n) Spelled c.args.count c.args.lines.now.left c.loop-place.lines.left (texts c.loop-place.names.items) c.loop-place._place c.loop-place-test.true c.loop-place.invariant.0
    c.in-Some.line.now c.next.new.self.left c.in-Some.ensures.line (λ y fits e. bad (ap is_name e ∙ fits)) ys rest b)

pub loop-place-preserved : goal.loop-place-preserved
loop-place-preserved g c =
    let grown : c.push.new.self.items ≡ c.loop-place.names.items ++ c.in-Ok-Some.name ∷ [] = search rules in
    let good = (rw c.in-Ok-Some.field-0-is at c.in-Ok-Some.ensures) in
    let all : texts c.push.new.self.items ≡ texts c.loop-place.names.items ++ c.in-Some.line.now ∷ [] = ap texts grown ∙ map-append string_bytes c.loop-place.names.items (c.in-Ok-Some.name ∷ []) ∙ ap (λ w. texts c.loop-place.names.items ++ w ∷ []) good.0 in
    let P : List (List ℕ) → Type 0 = λ l. Taken (λ n. n) Spelled c.args.count c.args.lines.now.left c.next.new.self.left l (c.loop-place._place + 1) in (
      subst P (sym all) (steps (λ n. n) Spelled c.args.count c.args.lines.now.left c.loop-place.lines.left (texts c.loop-place.names.items) c.loop-place._place c.loop-place-test.true c.loop-place.invariant.0
          c.in-Some.line.now c.next.new.self.left c.in-Some.line.now c.in-Some.ensures.line refl good.1 (λ y fits e. e)),
      goes_on c.args.lines.now c.loop-place.lines c.next.new.self c.loop-place.invariant.1 (asked_on c.loop-place.lines c.next.new.self c.in-Some.line.now c.next.new.self.left c.next.ensures.asked c.in-Some.ensures.line),
    )

pub returns-clause-whole : goal.returns-clause-whole
returns-clause-whole g c = λ ys rest b.
    let n : c.loop-place._place ≡ c.args.count = omega arith in
    let P : ℕ → Type 0 = λ i. Taken (λ n. n) Spelled c.args.count c.args.lines.now.left c.loop-place.lines.left (texts c.loop-place.names.items) i in
    only_read (λ n. n) Spelled c.args.count c.args.lines.now.left c.loop-place.lines.left (texts c.loop-place.names.items) (subst P n c.loop-place.invariant.0) ys rest b

pub returns-clause-read : goal.returns-clause-read
returns-clause-read g c =
    let n : c.loop-place._place ≡ c.args.count = omega arith in
    let P : ℕ → Type 0 = λ i. Taken (λ n. n) Spelled c.args.count c.args.lines.now.left c.loop-place.lines.left (texts c.loop-place.names.items) i in
    all_read (λ n. n) Spelled c.args.count c.args.lines.now.left c.loop-place.lines.left (texts c.loop-place.names.items) (subst P n c.loop-place.invariant.0)

pub returns-in-Err-clause-wrong : goal.returns-in-Err-clause-wrong
returns-in-Err-clause-wrong g c = inl refl

pub returns-then-is_err-clause-wrong : goal.returns-then-is_err-clause-wrong
returns-then-is_err-clause-wrong g c = inl refl

pub returns-in_default-clause-wrong : goal.returns-in_default-clause-wrong
returns-in_default-clause-wrong g c =
    wrong_name c.args.count c.args.lines.now c.loop-place.lines c.next.new.self (texts c.loop-place.names.items) c.loop-place._place c.loop-place-test.true c.loop-place.invariant.0 c.loop-place.invariant.1
    c.at_line.result End None c.at_line.ensures c.next.ensures.asked c.in_default.ensures.line refl

pub returns-in-Ok-None-clause-wrong : goal.returns-in-Ok-None-clause-wrong
returns-in-Ok-None-clause-wrong g c =
    let bad = (rw c.in-Ok-None.field-0-is at c.in-Ok-None.ensures) in
    wrong_name c.args.count c.args.lines.now c.loop-place.lines c.next.new.self (texts c.loop-place.names.items) c.loop-place._place c.loop-place-test.true c.loop-place.invariant.0 c.loop-place.invariant.1
    c.at_line-in-Ok-None.result c.why_name.result (Some c.in-Some.line.now) c.at_line-in-Ok-None.ensures c.next.ensures.asked (c.next.new.self.left, c.in-Some.ensures.line) (bad, c.why_name.ensures)

pub returns-clause-on : goal.returns-clause-on
returns-clause-on g c = c.loop-place.invariant.1
