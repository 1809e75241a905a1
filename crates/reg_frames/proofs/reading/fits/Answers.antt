use Rattle.std.proofs.Common.{rules}
use Rattle.reg_frames.proofs.reading.fits.Goals as goal

pub returns-in-Got-clause-verdict : goal.returns-in-Got-clause-verdict
returns-in-Got-clause-verdict c = search rules
