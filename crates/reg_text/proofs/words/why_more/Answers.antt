use Rattle.std.proofs.Common.{rules}
use Rattle.reg_text.proofs.words.why_more.Goals as goal

pub returns : goal.returns
returns g c = search rules
