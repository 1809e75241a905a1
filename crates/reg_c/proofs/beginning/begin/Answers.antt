use Rattle.std.proofs.Common.{sym, ◌∙◌}
use Rattle.reg_c.proofs.Begun.{begins}
use Rattle.reg_c.proofs.beginning.begin.Goals as goal

pub returns-in-Ok-clause-begun : goal.returns-in-Ok-clause-begun
returns-in-Ok-clause-begun c =
    let names = c.in_ok-names.ensures.read in let shape = c.in_ok-shape.ensures.made in let within = c.log_id-id.ensures.within in
    begins c.args.row.now c.args.text.now c.in-Ok.bytes.items c.in-Ok.field-0-1 c.in-Some.front c.in_ok-names.names c.in_ok-shape.shape c.log_id-id.result
    (sym c.front_of.ensures ∙ c.in-Some.is) names.0 names.1 shape.0 shape.1 shape.2 shape.3 c.log_id-id.ensures.same within.0 within.1 within.2 c.in-Ok.ensures
