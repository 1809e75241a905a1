use Rattle.reg_verify.proofs.stories.reports_in.Goals as goal

pub returns-in-Err-Line-clause-why : goal.returns-in-Err-Line-clause-why
returns-in-Err-Line-clause-why g c = rw (c.in-Err-Line.field-0-is, c.as_str.ensures.value) at c.in-Err-Line.ensures.why

pub returns-in-Ok-clause-whole : goal.returns-in-Ok-clause-whole
returns-in-Ok-clause-whole g c = rw c.as_str.ensures.value at c.in-Ok.ensures.whole
