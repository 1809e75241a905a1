use Rattle.std.proofs.Common.{Some, ap₂, sym, ◌∙◌}
use Rattle.serde_json.specs.View.{view}
use Rattle.reg_observed.proofs.Pairing.{none_of, some_of}
use Rattle.reg_observed.proofs.edn_says.two_elements.Goals as goal

pub returns-then-items-ne2 : goal.returns-then-items-ne2
returns-then-items-ne2 c = sym (none_of c.args.items.now c.if-items-ne2.true)

pub returns : goal.returns
returns c =
    ap₂ (λ x y. Some (view x, view y)) c.index-items-0.is c.index-items-1.is ∙ sym (some_of c.args.items.now c.index-items-0.result c.index-items-1.result c.if-items-ne2.false)
