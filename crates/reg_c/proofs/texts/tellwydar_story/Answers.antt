use Rattle.std.proofs.Common.{rules}
use Rattle.reg_c.proofs.texts.tellwydar_story.Goals as goal

pub returns : goal.returns
returns c = search rules
