use Rattle.std.proofs.Common.{◌∙◌, subst, sym, ap, arith}
use Rattle.reg_world.specs.Tallies.{Tally}
use Rattle.reg_world.specs.Pages.{tally_at, TimesDiffer}
use Rattle.reg_world.proofs.code.Entering.{at_default}
use Rattle.reg_world.proofs.adding.id_of.Goals as goal

pub number_of-number-requires : goal.number_of-number-requires
number_of-number-requires g c =
    let ts = c.args.callers.now.items in
    subst (λ (t : Tally). TimesDiffer t.casts) (sym (at_default ts c.from.result c.index_mut.result.now (omega arith) c.index_mut.ensures.value ∙ ap (tally_at ts) c.from.ensures)) c.requires.differ
