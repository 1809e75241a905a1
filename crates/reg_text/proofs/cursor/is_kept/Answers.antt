use Rattle.std.proofs.Common.{rules}
use Rattle.reg_text.proofs.cursor.is_kept.Goals as goal

pub returns-in-len1-up : goal.returns-in-len1-up
returns-in-len1-up c = search rules
