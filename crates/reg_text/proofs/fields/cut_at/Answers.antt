use Rattle.std.proofs.Common.{length, sym, ◌∙◌}
use Rattle.std.proofs.lemmas.Option.{none-some}
use Rattle.reg_text.proofs.Parts.{none_there, cut_read, cut_whole, cut_parts}
use Rattle.reg_text.proofs.fields.cut_at.Goals as goal

pub returns-in-Some-clause-read : goal.returns-in-Some-clause-read
returns-in-Some-clause-read c = cut_read c.args.mark c.args.bytes.now c.in-Some.place (sym c.in-Some.ensures.place)

pub returns-in-Some-clause-whole : goal.returns-in-Some-clause-whole
returns-in-Some-clause-whole c = λ front rest h e. cut_parts c.args.mark c.args.bytes.now c.in-Some.place front rest (sym c.in-Some.ensures.place) h e

pub returns-in-None-clause-read : goal.returns-in-None-clause-read
returns-in-None-clause-read c = none_there c.args.mark 0 c.args.bytes.now (sym c.in-None.ensures.place)

pub returns-in-None-clause-whole : goal.returns-in-None-clause-whole
returns-in-None-clause-whole c = λ front rest h e. absurd (none-some (length front) (c.in-None.ensures.place ∙ cut_whole c.args.mark c.args.bytes.now front rest h e))
