use Rattle.std.proofs.Common.{[], ◌∙◌}
use Rattle.reg_text.proofs.Worded.{few}
use Rattle.reg_c.proofs.beginning.names_of.Goals as goal

pub returns-in-Err-clause-whole : goal.returns-in-Err-clause-whole
returns-in-Err-clause-whole c =
    λ names good is. c.in-Err.ensures.whole names [] good (few names good) (c.new-lines.ensures.lines.0 ∙ is)

pub returns-in-None-clause-whole : goal.returns-in-None-clause-whole
returns-in-None-clause-whole c =
    λ names good is. (c.in-Ok.ensures.whole names [] good (few names good) (c.new-lines.ensures.lines.0 ∙ is)).0
