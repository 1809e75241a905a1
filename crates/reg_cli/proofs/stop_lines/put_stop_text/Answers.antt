use Rattle.std.proofs.Common.{rules}
use Rattle.reg_cli.proofs.stop_lines.put_stop_text.Goals as goal

pub returns-in-Full : goal.returns-in-Full
returns-in-Full g c = search rules
