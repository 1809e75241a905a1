use Rattle.std.proofs.Common.{◌∙◌, sym, ap, arith, ◌∷◌}
use Rattle.std.proofs.lemmas.Str.Pattern.{split_once_first}
use Rattle.reg_text.specs.Lines.{lines_of}
use Rattle.reg_text.proofs.Split.{empty_is, none_left}
use Rattle.reg_trace.proofs.Cutting.{cut_none, cut_parts}
use Rattle.reg_trace.proofs.data.comments.cut_line.Goals as goal

pub returns-then-is_empty-clause-lines : goal.returns-then-is_empty-clause-lines
returns-then-is_empty-clause-lines c =
    ap lines_of (empty_is c.args.text.now (sym c.is_empty.ensures ∙ c.if-is_empty.true)) ∙ none_left

pub returns-in-Some-clause-lines : goal.returns-in-Some-clause-lines
returns-in-Some-clause-lines c = cut_parts c.args.text.now c.in-Some.line c.in-Some.rest (rw c.in-Some.is at (split_once_first 10 c.args.text.now c.split_once.result c.split_once.ensures.cases (omega arith)))

pub returns-in-None-clause-lines : goal.returns-in-None-clause-lines
returns-in-None-clause-lines c =
    cut_none c.args.text.now (sym c.is_empty.ensures ∙ c.if-is_empty.false) (rw c.in-None.is at (split_once_first 10 c.args.text.now c.split_once.result c.split_once.ensures.cases (omega arith)))
    ∙ ap (λ ls. c.args.text.now ∷ ls) (sym none_left)
