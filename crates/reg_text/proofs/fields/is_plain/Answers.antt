use Rattle.std.proofs.Common.{rules}
use Rattle.reg_text.proofs.fields.is_plain.Goals as goal

pub returns-else-first-ne48 : goal.returns-else-first-ne48
returns-else-first-ne48 c = search rules
