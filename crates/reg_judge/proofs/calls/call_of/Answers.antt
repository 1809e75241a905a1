use Rattle.std.proofs.Common.{refl, sym}
use Rattle.reg_judge.specs.Acts.{act_in}
use Rattle.reg_judge.proofs.Needs.{needed_is}
use Rattle.reg_judge.proofs.calls.call_of.Goals as goal

pub returns : goal.returns
returns g c = (sym c.in_ok-act.ensures, refl, λ h known. needed_is h (act_in c.args.rows.now) c.args.needs.now c.in_ok-act.act c.needed_until.result c.needed_until.ensures.one c.needed_until.ensures.any known)
