use Rattle.std.proofs.Common.{◌∙◌, sym, ap, arith, Bor, List, ℕ}
use Rattle.std.proofs.lemmas.Str.Pattern.{strip_prefix_char}
use Rattle.reg_trace.proofs.Cutting.{comment_is, no_comment, words_of}
use Rattle.reg_trace.proofs.data.comments.comment.Goals as goal

pub returns-in-Some : goal.returns-in-Some
returns-in-Some c =
    let found = rw c.in-Some.is at (strip_prefix_char 35 c.args.line.now c.strip_prefix.result c.strip_prefix.ensures.cases (omega arith)) in
    let words = c.strip_prefix-in-Some.result in
    ap (λ (w : Bor (List ℕ)). w.now) c.unwrap_or.ensures
    ∙ (words_of c.in-Some.words words (strip_prefix_char 32 c.in-Some.words.now words c.strip_prefix-in-Some.ensures.cases (omega arith)) ∙ sym (comment_is c.args.line.now c.in-Some.words.now found))

pub returns-in-None : goal.returns-in-None
returns-in-None c = no_comment c.args.line.now (rw c.in-None.is at (strip_prefix_char 35 c.args.line.now c.strip_prefix.result c.strip_prefix.ensures.cases (omega arith)))
