use Rattle.std.proofs.Common.{rules, tests}
use Rattle.reg_history.proofs.id_lines.PointListed.fits.Goals as goal

pub returns-then-fits : goal.returns-then-fits
returns-then-fits c = search (rules, tests)
