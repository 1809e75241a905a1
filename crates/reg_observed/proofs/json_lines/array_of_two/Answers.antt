use Rattle.std.proofs.Common.{ap₂, ◌∙◌, subst, List, ℕ, Result}
use Rattle.serde_json.specs.View.{view}
use Rattle.reg_observed.specs.Told.{Gives}
use Rattle.reg_observed.specs.JsonLines.{both_texts, pair_of}
use Rattle.reg_observed.specs.declared.faults.Why.{Why}
use Rattle.reg_observed.proofs.Pairing.{not_two, two}
use Rattle.reg_observed.proofs.json_lines.array_of_two.Goals as goal

pub returns-then-items-ne2 : goal.returns-then-items-ne2
returns-then-items-ne2 c = not_two c.args.items.now c.if-items-ne2.true

pub returns : goal.returns
returns c =
    let same = ap₂ (λ x y. pair_of (view x) (view y)) c.index-items-0.is c.index-items-1.is ∙ two c.args.items.now c.index-items-0.result c.index-items-1.result c.if-items-ne2.false in
    subst (λ (r : Result (List ℕ × List ℕ) Why). Gives both_texts c.elements.result r) same c.elements.ensures
