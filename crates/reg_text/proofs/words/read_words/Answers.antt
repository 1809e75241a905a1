use Rattle.std.proofs.Common.{arith, ℕ, ◌≡◌, ◌+◌, List, [], ◌∷◌, ◌++◌, sym, ap, ◌∙◌, subst, rules, string_bytes, inr}
use Rattle.std.proofs.Common.{take}
use Rattle.std.proofs.lemmas.List.{map-append}
use Rattle.reg_base.specs.Names.{texts}
use Rattle.reg_text.proofs.Split.{empty_is}
use Rattle.reg_text.proofs.Named.{names_words}
use Rattle.reg_text.proofs.Worded.{Worded, worded, adds, no_word, no_text, finished, left_over, more_why}
use Rattle.reg_text.proofs.words.read_words.Goals as goal

pub loop-turn-init : goal.loop-turn-init
loop-turn-init g c =
    let none : c.new-words.result.items ≡ [] = search rules in
    let P : List (List ℕ) → Type 0 = λ l. Worded c.args.text.now c.args.text.now l 0 in
    subst P (sym (ap texts none)) (worded c.args.text.now)

pub returns-then-is_empty-clause-read : goal.returns-then-is_empty-clause-read
returns-then-is_empty-clause-read g c =
    let all = finished c.args.text.now c.loop-turn.rest.now (texts c.loop-turn.words.items) c.loop-turn._turn c.loop-turn.invariant (empty_is c.loop-turn.rest.now (sym c.is_empty.ensures ∙ c.if-is_empty.true)) in
    (all.0, omega (arith, c.loop-turn.invariant.count))

pub returns-then-is_empty-clause-whole : goal.returns-then-is_empty-clause-whole
returns-then-is_empty-clause-whole g c =
    λ ns ok few e. (finished c.args.text.now c.loop-turn.rest.now (texts c.loop-turn.words.items) c.loop-turn._turn c.loop-turn.invariant (empty_is c.loop-turn.rest.now (sym c.is_empty.ensures ∙ c.if-is_empty.true))).1 ns (names_words ns ok) e

pub returns-then-is_empty-clause-words : goal.returns-then-is_empty-clause-words
returns-then-is_empty-clause-words g c =
    λ ns ok e. (finished c.args.text.now c.loop-turn.rest.now (texts c.loop-turn.words.items) c.loop-turn._turn c.loop-turn.invariant (empty_is c.loop-turn.rest.now (sym c.is_empty.ensures ∙ c.if-is_empty.true))).1 ns ok e

pub returns-in_default-clause-whole : goal.returns-in_default-clause-whole
returns-in_default-clause-whole g c = λ ns ok few e.
    absurd (no_word c.args.text.now c.loop-turn.rest.now (texts c.loop-turn.words.items) c.loop-turn._turn c.loop-turn.invariant (sym c.is_empty.ensures ∙ c.if-is_empty.false) c.in_default.ensures.whole ns (names_words ns ok) e)

pub returns-in_default-clause-words : goal.returns-in_default-clause-words
returns-in_default-clause-words g c = λ ns ok e.
    absurd (no_word c.args.text.now c.loop-turn.rest.now (texts c.loop-turn.words.items) c.loop-turn._turn c.loop-turn.invariant (sym c.is_empty.ensures ∙ c.if-is_empty.false) c.in_default.ensures.whole ns ok e)

pub returns-in-Ok-None-clause-whole : goal.returns-in-Ok-None-clause-whole
returns-in-Ok-None-clause-whole g c = λ ns ok few e.
    let bad = (rw c.in-Ok-None.field-0-is at c.in-Ok-None.ensures) in
    absurd (no_text c.args.text.now c.loop-turn.rest.now (texts c.loop-turn.words.items) c.loop-turn._turn c.in-Some.word.now c.in-Some.after.now c.loop-turn.invariant (sym c.is_empty.ensures ∙ c.if-is_empty.false) c.in-Some.ensures.whole bad ns (names_words ns ok) e)

pub returns-in-Ok-None-clause-words : goal.returns-in-Ok-None-clause-words
returns-in-Ok-None-clause-words g c = λ ns ok e.
    let bad = (rw c.in-Ok-None.field-0-is at c.in-Ok-None.ensures) in
    absurd (no_text c.args.text.now c.loop-turn.rest.now (texts c.loop-turn.words.items) c.loop-turn._turn c.in-Some.word.now c.in-Some.after.now c.loop-turn.invariant (sym c.is_empty.ensures ∙ c.if-is_empty.false) c.in-Some.ensures.whole bad ns ok e)

pub loop-turn-preserved : goal.loop-turn-preserved
loop-turn-preserved g c =
    let grown : c.push.new.self.items ≡ c.loop-turn.words.items ++ c.in-Ok-Some.name ∷ [] = search rules in
    let same = (rw c.in-Ok-Some.field-0-is at c.in-Ok-Some.ensures) in
    let all : texts c.push.new.self.items ≡ texts c.loop-turn.words.items ++ c.in-Some.word.now ∷ [] = ap texts grown ∙ map-append string_bytes c.loop-turn.words.items (c.in-Ok-Some.name ∷ []) ∙ ap (λ w. texts c.loop-turn.words.items ++ w ∷ []) same in
    let P : List (List ℕ) → Type 0 = λ l. Worded c.args.text.now c.in-Some.after.now l (c.loop-turn._turn + 1) in
    subst P (sym all) (adds c.args.text.now c.loop-turn.rest.now (texts c.loop-turn.words.items) c.loop-turn._turn c.in-Some.word.now c.in-Some.after.now c.loop-turn.invariant (sym c.is_empty.ensures ∙ c.if-is_empty.false) c.in-Some.ensures.read c.in-Some.ensures.whole)

pub returns-then-is_empty-2-clause-read : goal.returns-then-is_empty-2-clause-read
returns-then-is_empty-2-clause-read g c =
    let all = finished c.args.text.now c.loop-turn.rest.now (texts c.loop-turn.words.items) c.loop-turn._turn c.loop-turn.invariant (empty_is c.loop-turn.rest.now (sym c.is_empty-2.ensures ∙ c.if-is_empty-2.true)) in
    (all.0, omega (arith, c.loop-turn.invariant.count))

pub returns-then-is_empty-2-clause-whole : goal.returns-then-is_empty-2-clause-whole
returns-then-is_empty-2-clause-whole g c =
    λ ns ok few e. (finished c.args.text.now c.loop-turn.rest.now (texts c.loop-turn.words.items) c.loop-turn._turn c.loop-turn.invariant (empty_is c.loop-turn.rest.now (sym c.is_empty-2.ensures ∙ c.if-is_empty-2.true))).1 ns (names_words ns ok) e

pub returns-then-is_empty-2-clause-words : goal.returns-then-is_empty-2-clause-words
returns-then-is_empty-2-clause-words g c =
    λ ns ok e. (finished c.args.text.now c.loop-turn.rest.now (texts c.loop-turn.words.items) c.loop-turn._turn c.loop-turn.invariant (empty_is c.loop-turn.rest.now (sym c.is_empty-2.ensures ∙ c.if-is_empty-2.true))).1 ns ok e

pub returns-clause-words : goal.returns-clause-words
returns-clause-words g c = λ ws ok e.
    let left = left_over c.args.text.now c.loop-turn.rest.now (texts c.loop-turn.words.items) c.loop-turn._turn c.loop-turn.invariant (sym c.is_empty-2.ensures ∙ c.if-is_empty-2.false) ws ok e in
    let turns : c.loop-turn._turn ≡ c.args.limit = omega arith in
    inr (more_why c.args.limit ws (texts c.loop-turn.words.items) c.why_more.result (left.0 ∙ ap (λ k. take k ws) turns, omega (arith, left.1, turns)) c.why_more.ensures)

pub returns-clause-whole : goal.returns-clause-whole
returns-clause-whole g c = λ ns ok few e.
    let left = left_over c.args.text.now c.loop-turn.rest.now (texts c.loop-turn.words.items) c.loop-turn._turn c.loop-turn.invariant (sym c.is_empty-2.ensures ∙ c.if-is_empty-2.false) ns (names_words ns ok) e in
    absurd (omega (arith, left.1, few))
