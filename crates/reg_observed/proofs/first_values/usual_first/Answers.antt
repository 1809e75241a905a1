use Rattle.reg_observed.proofs.Hearing.{wider_by}
use Rattle.reg_observed.proofs.Finding.{usual_first}
use Rattle.reg_observed.proofs.first_values.usual_first.Goals as goal

pub returns-clause-first : goal.returns-clause-first
returns-clause-first c = usual_first _ _ c.args.events.now c.in_ok-null.null c.in_ok-zero.zero _ c.in_ok-null.ensures.here c.in_ok-zero.ensures.wider c.in_ok-zero.ensures.here c.first_if_told.ensures

pub returns-clause-wider : goal.returns-clause-wider
returns-clause-wider c = wider_by _ _ _ c.in_ok-null.ensures.wider c.in_ok-zero.ensures.wider
