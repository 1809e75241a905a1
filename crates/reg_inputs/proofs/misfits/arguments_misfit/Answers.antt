use Rattle.std.proofs.Common.{rules, ◌+◌, ◌≤◌, slice_index_or, List, length, take, drop, sym, ap, subst, ◌∙◌, arith}
use Rattle.std.proofs.Common.{refl}
use Rattle.std.proofs.lemmas.List.{take-append-drop, drop_more}
use Rattle.reg_inputs.specs.declared.misfits.Wanted.{Wanted}
use Rattle.reg_inputs.specs.declared.misfits.Wanted.TheVariants.{Event}
use Rattle.reg_inputs.specs.Arguments.{FitAll, Reached, next_of}
use Rattle.reg_inputs.proofs.Fitting.{reached_more, reached_all, stopped, ended, no_more, not_end, not_word, plain_at}
use Rattle.reg_inputs.proofs.Fitting.{first_is, take_all, take_next, lengths, none_left}
use Rattle.reg_inputs.proofs.misfits.arguments_misfit.Goals as goal
use Rattle.reg_inputs.proofs.misfits.arguments_misfit.Goals.{in_default-via-in-Some+else-fits}
use Rattle.reg_inputs.proofs.misfits.arguments_misfit.Goals.{in_default-via-in_default}

pub returns-in_default : goal.returns-in_default
returns-in_default g c = λ words apart e.
    let k = c.loop-argument.argument-index in
    let all = c.args.arguments.now in
    let reached = c.loop-argument.invariant.1 in
    let less = c.loop-argument-test.true in
    let left = drop_more all k Event less in
    stopped c.args.rule c.args.names.now all (take k all) (drop k all) c.args.text.now c.loop-argument.rest.now words c.args.before _ reached (sym (take-append-drop k all)) apart e
    (c.loop-argument.invariant.0 ∙ ap (λ n. c.args.before + n) (sym (lengths all k (omega (arith, less))))) (ap next_of (sym left)) refl
    (elim c.in_default.branch [
      | in_default-via-in-Some+else-fits w ↦ λ after same lack is.
          let read = w.in-Some.ensures.read in
          not_word c.args.rule c.args.names.now (slice_index_or all k Event) _ w.in-Some.it.now after w.fits.result w.if-fits.false w.fits.ensures.1 (first_is after c.loop-argument.rest.now w.in-Some.it.now w.in-Some.later.now read.0 read.1 read.2 same lack) (ap next_of left) is
      | in_default-via-in_default w ↦ λ after same lack is.
          not_end c.args.rule c.args.names.now (slice_index_or all k Event) _ after (ended c.loop-argument.rest.now after (λ r e. let bad = w.in_default.ensures.whole r e in absurd (cc)) same) (plain_at all k c.requires.plain less) (ap next_of left) is
    ])

pub loop-argument-preserved : goal.loop-argument-preserved
loop-argument-preserved g c =
    let k = c.loop-argument.argument-index in
    let all = c.args.arguments.now in
    let P : List Wanted → Type 0 = λ l. Reached c.args.rule c.args.names.now l c.args.text.now c.in-Some.later.now in
    (omega (arith, c.loop-argument.invariant.0), subst P (sym (take_next all k Event c.loop-argument-test.true)) (reached_more c.args.rule c.args.names.now (take k all) c.args.text.now c.loop-argument.rest.now _ c.in-Some.it.now c.in-Some.later.now c.loop-argument.invariant.1 c.in-Some.ensures.read (c.fits.ensures.0 c.if-fits.true)))

pub returns-then-is_empty : goal.returns-then-is_empty
returns-then-is_empty g c = λ words apart e.
    let all = c.args.arguments.now in
    let P : List Wanted → Type 0 = λ l. FitAll c.args.rule c.args.names.now l words in
    subst P (take_all all c.loop-argument.argument-index (omega (arith, c.loop-argument-test.false))) (reached_all c.args.rule c.args.names.now (take c.loop-argument.argument-index all) c.args.text.now c.loop-argument.rest.now words c.loop-argument.invariant.1 (search rules) apart e)

pub returns : goal.returns
returns g c = λ words apart e.
    let k = c.loop-argument.argument-index in
    let all = c.args.arguments.now in
    let done : length all ≤ k = omega (arith, c.loop-argument-test.false) in
    let left = none_left all k done in
    stopped c.args.rule c.args.names.now all (take k all) (drop k all) c.args.text.now c.loop-argument.rest.now words c.args.before _ c.loop-argument.invariant.1 (sym (take-append-drop k all)) apart e
    (c.loop-argument.invariant.0 ∙ ap (λ n. c.args.before + n) (sym (lengths all k (omega (arith, c.loop-argument.auto.argument-index-end))))) (sym (ap next_of left)) refl
    (λ after same lack is. no_more c.args.rule c.args.names.now _ c.loop-argument.rest.now after (sym c.is_empty.ensures ∙ c.if-is_empty.false) same (ap next_of left) is)
