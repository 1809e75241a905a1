use Rattle.std.proofs.Common.{List, map, sym, subst}
use Rattle.std.specs.Prelude.{Vec}
use Rattle.reg_base.specs.declared.memory.Op.{Op}
use Rattle.reg_inputs.specs.Loads.{Load}
use Rattle.reg_outcomes.specs.Interleavings.{ArePlayable}
use Rattle.reg_outcomes.proofs.Playable.{playable}
use Rattle.reg_show.proofs.one_outcome.outcomes_of.Goals as goal

pub all_outcomes-requires-clause-playable : goal.all_outcomes-requires-clause-playable
all_outcomes-requires-clause-playable g c =
    let i = c.work.inside in
    let work : Load = record { shape = i.shape; names = i.names; front = i.front; scripts = map (λ s. s.items) i.scripts.items; seed = i.seed; loss = i.loss; repeat = i.repeat; budget = i.budget } in
    subst (λ (l : List (Vec Op g.row.A.Denot)). ArePlayable (map (λ v. v.items) l) c.registers-registers.result) (sym c.as_slice.ensures.value)
    (subst (λ n. ArePlayable work.scripts n) (sym c.registers-registers.ensures.value) (playable work c.work.invariant))
