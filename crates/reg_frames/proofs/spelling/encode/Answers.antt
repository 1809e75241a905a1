use Rattle.std.proofs.Common.{rules, sym, ◌∙◌}
use Rattle.reg_frames.proofs.Frames.{spelt_by, fits_from}
use Rattle.reg_frames.proofs.spelling.encode.Goals as goal

pub returns-in-Ok : goal.returns-in-Ok
returns-in-Ok g c = spelt_by c.args.frame.now c.in-Ok.bytes.items c.fits.ensures.narrow (sym c.fits.ensures.verdict ∙ c.if-not-fits.false) c.in-Ok.ensures

pub returns-in-Err : goal.returns-in-Err
returns-in-Err g c = fits_from c.args.frame.now c.fits.ensures.narrow (sym c.fits.ensures.verdict ∙ c.if-not-fits.false)

pub returns-then-not-fits : goal.returns-then-not-fits
returns-then-not-fits g c = search rules
