use Rattle.std.proofs.Common.{◌≡◌, ◌==◌, length, refl, ap, sym, ◌∙◌, inr, arith}
use Rattle.reg_text.proofs.Split.{empty_is}
use Rattle.reg_text.proofs.Seen.{seen, sees, all_seen, none_next, bad_next, no_words}
use Rattle.reg_text.proofs.words.why_names.Goals as goal

pub loop-turn-init : goal.loop-turn-init
loop-turn-init c = seen c.args.text.now

pub returns-then-is_empty-clause-words : goal.returns-then-is_empty-clause-words
returns-then-is_empty-clause-words c =
    λ ws are e. absurd (no_words c.args.text.now ws (sym c.is_empty.ensures ∙ c.if-is_empty.true) are.0 e)

pub returns-then-not-is_word-clause-words : goal.returns-then-not-is_word-clause-words
returns-then-not-is_word-clause-words c = λ ws are e.
    absurd (bad_next c.args.text.now c.loop-turn.rest.now c.loop-turn._turn c.in-Some.word.now c.in-Some.after.now c.loop-turn.invariant (sym c.is_empty-in-loop-turn.ensures ∙ c.if-is_empty-2.false) c.in-Some.ensures.whole
    (sym c.is_word.ensures ∙ c.if-not-is_word.true) ws are.1 e)

pub returns-in-None-clause-words : goal.returns-in-None-clause-words
returns-in-None-clause-words c = λ ws are e.
    absurd (none_next c.args.text.now c.loop-turn.rest.now c.loop-turn._turn c.loop-turn.invariant (sym c.is_empty-in-loop-turn.ensures ∙ c.if-is_empty-2.false) c.in-None.ensures.whole ws are.1 e)

pub loop-turn-preserved : goal.loop-turn-preserved
loop-turn-preserved c =
    sees c.args.text.now c.loop-turn.rest.now c.loop-turn._turn c.in-Some.word.now c.in-Some.after.now c.loop-turn.invariant (sym c.is_empty-in-loop-turn.ensures ∙ c.if-is_empty-2.false) c.in-Some.ensures.read c.in-Some.ensures.whole
    (sym c.is_word.ensures ∙ c.if-not-is_word.false)

pub returns-then-is_empty-2-clause-form : goal.returns-then-is_empty-2-clause-form
returns-then-is_empty-2-clause-form c =
    inr (refl, all_seen c.args.text.now c.loop-turn.rest.now c.loop-turn._turn c.loop-turn.invariant (sym c.is_empty.ensures ∙ c.if-is_empty.false) (empty_is c.loop-turn.rest.now (sym c.is_empty-in-loop-turn.ensures ∙ c.if-is_empty-2.true)))

pub returns-clause-form : goal.returns-clause-form
returns-clause-form c =
    let none : length c.loop-turn.rest.now ≡ 0 = omega (arith, c.loop-turn.invariant.short) in
    inr (refl, all_seen c.args.text.now c.loop-turn.rest.now c.loop-turn._turn c.loop-turn.invariant (sym c.is_empty.ensures ∙ c.if-is_empty.false) (empty_is c.loop-turn.rest.now (ap (λ n. n == 0) none)))
