use Rattle.std.proofs.Common.{rules}
use Rattle.reg_frames.proofs.spelling.spell.Goals as goal

pub returns : goal.returns
returns g c = search rules
