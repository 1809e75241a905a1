use Rattle.std.proofs.Common.{List, sym, subst}
use Rattle.reg_outcomes.specs.Interleavings.{AreAll, Interleaving}
use Rattle.reg_outcomes.specs.Layers.{entries_of}
use Rattle.reg_outcomes.proofs.Collecting.{are_all}
use Rattle.reg_outcomes.proofs.interleavings.outcomes.tell_last.Goals as goal

pub returns-clause-outcomes : goal.returns-clause-outcomes
returns-clause-outcomes g c scripts registers is =
    subst (λ (l : List Interleaving). AreAll scripts registers l) (sym c.in_ok-list.ensures.list)
    (are_all (λ v. v.items) (λ v. v.items) scripts registers (entries_of c.args.last.layer) is c.in_ok-outcomes.outcomes.entries c.in_ok-outcomes.ensures c.in_ok-list.ensures.ordered)
