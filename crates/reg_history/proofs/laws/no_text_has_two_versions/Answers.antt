use Rattle.reg_history.proofs.Older.{not_two}
use Rattle.reg_history.proofs.laws.no_text_has_two_versions.Goals as goal

pub returns : goal.returns
returns c = not_two
