use Rattle.std.proofs.Common.{List, map, sym, subst}
use Rattle.std.specs.Prelude.{Vec}
use Rattle.reg_base.specs.declared.memory.Op.{Op}
use Rattle.reg_inputs.specs.Loads.{Load}
use Rattle.reg_outcomes.specs.Interleavings.{ArePlayable}
use Rattle.reg_outcomes.proofs.Playable.{playable}
use Rattle.reg_show.proofs.one_outcome.run_of.Goals as goal

pub run_outcome-requires-clause-playable : goal.run_outcome-requires-clause-playable
run_outcome-requires-clause-playable g c =
    let i = c.work.inside in
    let work : Load = record { shape = i.shape; names = i.names; front = i.front; scripts = map (λ s. s.items) i.scripts.items; seed = i.seed; loss = i.loss; repeat = i.repeat; budget = i.budget } in
    subst (λ (l : List (Vec Op g.row.A.Denot)). ArePlayable (map (λ v. v.items) l) work.shape.registers) (sym c.as_slice.ensures.value) (playable work c.work.invariant)
