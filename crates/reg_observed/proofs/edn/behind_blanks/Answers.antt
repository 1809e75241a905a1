use Rattle.std.proofs.Common.{sym, ◌∙◌}
use Rattle.std.proofs.lemmas.List.{take_rest}
use Rattle.reg_observed.proofs.Scanning.{blank_passed, blanks_alone, other_stays}
use Rattle.reg_observed.proofs.edn.behind_blanks.Goals as goal

pub returns-then-not-is_blank : goal.returns-then-not-is_blank
returns-then-not-is_blank c =
    take_rest c.args.text.now c.loop-at.at ∙ sym (c.loop-at.invariant ∙ other_stays c.args.text.now c.loop-at.at c.loop-at-test.true (sym c.is_blank.ensures ∙ c.if-not-is_blank.true))

pub loop-at-preserved : goal.loop-at-preserved
loop-at-preserved c = c.loop-at.invariant ∙ blank_passed c.args.text.now c.loop-at.at c.loop-at-test.true (sym c.is_blank.ensures ∙ c.if-not-is_blank.false)

pub returns : goal.returns
returns c = sym (c.loop-at.invariant ∙ blanks_alone c.args.text.now c.loop-at.at c.loop-at-test.false)
