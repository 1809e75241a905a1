use Rattle.std.proofs.Common.{◌≡◌, sym, ◌∙◌}
use Rattle.std.proofs.lemmas.Bool.{eqb-true}
use Rattle.reg_base.specs.Memory.{register_of}
use Rattle.reg_outcomes.proofs.Known.{overwrites_is}
use Rattle.reg_outcomes.proofs.orders.forcing.overwrites.Goals as goal

pub returns : goal.returns
returns g c = λ t.
    let own : register_of c.in-Some.fact.op ≡ c.args.value.0 = sym c.register.ensures ∙ eqb-true c.register.result c.args.value.0 t in
    overwrites_is c.args.finder.now.entries c.args.id c.args.value c.in-Some.fact c.in-Some-left_by.left c.in-Some.ensures.value own c.in-Some-left_by.ensures c.if-left-value.false
