use Rattle.std.proofs.Common.{ap, subst}
use Rattle.reg_inputs.specs.Loads.{IsLoad, Load}
use Rattle.reg_show.proofs.forms.with_events.Goals as goal

pub returns-clause-plan : goal.returns-clause-plan
returns-clause-plan g c = λ i. record {
  shape = ap (λ (w : Load). w.shape) c.work.view_is i;
  names = ap (λ (w : Load). w.names) c.work.view_is i;
  front = ap (λ (w : Load). w.front) c.work.view_is i;
  events = c.args.events.items;
}

pub returns-clause-load : goal.returns-clause-load
returns-clause-load g c = subst IsLoad c.work.view_is c.work.invariant
