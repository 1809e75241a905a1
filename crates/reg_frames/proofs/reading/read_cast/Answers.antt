use Rattle.std.proofs.Common.{rules}
use Rattle.reg_frames.proofs.reading.read_cast.Goals as goal

pub returns : goal.returns
returns c = search rules
