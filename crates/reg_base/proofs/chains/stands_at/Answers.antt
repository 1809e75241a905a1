use Rattle.std.proofs.Common.{◌∙◌, sym, length}
use Rattle.std.proofs.lemmas.Bool.{ltb-true, ltb-false}
use Rattle.reg_base.proofs.NamesLaws.{stood_at, equal_at, none_at}
use Rattle.reg_base.proofs.chains.stands_at.Goals as goal

pub returns-in-Some : goal.returns-in-Some
returns-in-Some g c =
    let within = ltb-true c.args.place (length c.args.names.now) (sym c.in-Some.ensures.lookup.0) in (
      λ equal. stood_at c.args.names.now c.args.place c.in-Some.found.now c.as_bytes.result.now c.args.name.now within c.in-Some.ensures.lookup.1 c.as_bytes.ensures.value (sym c.eq.ensures ∙ equal),
      λ there. c.eq.ensures ∙ equal_at c.args.names.now c.args.place c.in-Some.found.now c.as_bytes.result.now c.args.name.now within c.in-Some.ensures.lookup.1 c.as_bytes.ensures.value there,
    )

pub returns-in-None : goal.returns-in-None
returns-in-None g c = (
  λ no. absurd (cc),
  λ there. absurd (none_at c.args.names.now c.args.place c.args.name.now (ltb-false c.args.place (length c.args.names.now) (sym c.in-None.ensures.lookup.0)) there),
)
