use Rattle.std.proofs.Common.{Option, ℕ, ◌++◌, ◌∷◌, [], ap, sym, ◌∙◌, subst}
use Rattle.std.specs.Option.{option_or}
use Rattle.reg_outcomes.specs.Counts.{finished_play}
use Rattle.reg_outcomes.specs.PlayTables.{IsFirst}
use Rattle.reg_outcomes.proofs.Counting.{first_joined}
use Rattle.reg_outcomes.proofs.tables.tallies.first_of.Goals as goal

pub returns : goal.returns
returns c kind plays outcome such first =
    let play = finished_play outcome c.args.glance in
    subst (λ (o : Option ℕ). IsFirst kind (plays ++ play ∷ []) o) (sym (c.or.ensures ∙ ap (λ (o : Option ℕ). option_or c.args.seed o) c.then_some.ensures)) (first_joined kind plays play c.args.seed c.args.is_such such first)
