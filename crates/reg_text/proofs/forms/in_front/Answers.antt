use Rattle.std.proofs.Common.{◌-◌, length, sym, ◌∙◌, inr}
use Rattle.reg_text.proofs.Formed.{padded, unpadded}
use Rattle.reg_text.proofs.forms.in_front.Goals as goal

pub returns-then-is_blank-clause-only : goal.returns-then-is_blank-clause-only
returns-then-is_blank-clause-only c =
    let read = c.in-Some.ensures.read in
    inr (read.1, padded c.args.bytes.now c.in-Some.front.now c.in-Some.after.now read.0 (sym c.is_blank.ensures ∙ c.if-is_blank.true))

pub returns-else-is_blank-clause-front : goal.returns-else-is_blank-clause-front
returns-else-is_blank-clause-front c = λ front lacks e.
    unpadded c.args.bytes.now front c.in-Some.front.now c.in-Some.after.now (length c.args.bytes.now - length front) c.in-Some.ensures.whole (sym c.is_blank.ensures ∙ c.if-is_blank.false) lacks e
