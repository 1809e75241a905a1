use Rattle.std.proofs.Common.{sym, ap, ◌∙◌, refl, arith}
use Rattle.reg_text.specs.Lines.{kept}
use Rattle.reg_text.proofs.Split.{kept_line, skipped_line, none_kept}
use Rattle.reg_text.proofs.Counting.{none_passed, one_passed, one_found, counted_end}
use Rattle.reg_text.proofs.cursor.next_kept.Goals as goal

pub loop-line-init : goal.loop-line-init
loop-line-init c = record { lines = refl; number = λ _. none_passed _ _ }

pub returns-then-is_kept-clause-lines : goal.returns-then-is_kept-clause-lines
returns-then-is_kept-clause-lines c = c.loop-line.invariant.lines ∙ ap kept c.in-Some.ensures.lines ∙ kept_line c.in-Some.line.now _ (sym c.is_kept.ensures ∙ c.if-is_kept.true)

pub returns-then-is_kept-clause-number : goal.returns-then-is_kept-clause-number
returns-then-is_kept-clause-number c = λ few. one_found _ _ _ c.in-Some.line.now c.args.number.now c.loop-line.number c.saturating_add.result few (c.loop-line.invariant.number few) c.in-Some.ensures.lines c.saturating_add.ensures (sym c.is_kept.ensures ∙ c.if-is_kept.true)

pub loop-line-smaller : goal.loop-line-smaller
loop-line-smaller c = omega (arith, c.in-Some.ensures.shorter)

pub loop-line-preserved : goal.loop-line-preserved
loop-line-preserved c = record {
  lines = c.loop-line.invariant.lines ∙ ap kept c.in-Some.ensures.lines ∙ skipped_line c.in-Some.line.now _ (sym c.is_kept.ensures ∙ c.if-is_kept.false);
  number = λ few. one_passed _ _ _ c.in-Some.line.now c.args.number.now c.loop-line.number c.saturating_add.result few (c.loop-line.invariant.number few) c.in-Some.ensures.lines c.saturating_add.ensures;
}

pub returns-clause-lines : goal.returns-clause-lines
returns-clause-lines c = c.loop-line.invariant.lines ∙ ap kept c.in_default.ensures.lines ∙ none_kept

pub returns-clause-number : goal.returns-clause-number
returns-clause-number c = λ few. counted_end _ _ c.args.number.now c.loop-line.number c.saturating_add-2.result few (c.loop-line.invariant.number few) c.in_default.ensures.lines c.saturating_add-2.ensures
