use Rattle.reg_outcomes.proofs.Forced.{none_where_torn}
use Rattle.reg_outcomes.proofs.orders.torn.is_circle.Goals as goal

pub returns : goal.returns
returns g c = λ t.
    let s = c.args.finder.now in
    none_where_torn s c.in-Answered.id (c.is_finished.ensures t) (c.has.ensures s c.if-not-has.false c.requires)
