use Rattle.std.proofs.Common.{◌≡◌, List, map, ap, sym, ◌∙◌, subst}
use Rattle.std.specs.Prelude.{Vec}
use Rattle.reg_base.specs.declared.memory.Op.{Op}
use Rattle.reg_inputs.specs.Loads.{Load}
use Rattle.reg_outcomes.specs.declared.faults.InterleavingFault.{InterleavingFault}
use Rattle.reg_outcomes.specs.Interleavings.{ArePlayable, IsFewFault}
use Rattle.reg_outcomes.proofs.Playable.{playable}
use Rattle.reg_outcomes.specs.declared.tables.undrawn.TheConstants.{MOST_COUNTED_STAGES}
use Rattle.reg_outcomes.proofs.Absent.{tells_few, tells_many}
use Rattle.reg_outcomes.proofs.tables.undrawn.count_undrawn.Goals as goal

pub few_outcomes-requires-clause-playable : goal.few_outcomes-requires-clause-playable
few_outcomes-requires-clause-playable g c =
    let i = c.work.inside in
    let work : Load = record { shape = i.shape; names = i.names; front = i.front; scripts = map (λ s. s.items) i.scripts.items; seed = i.seed; loss = i.loss; repeat = i.repeat; budget = i.budget } in
    subst (λ (l : List (Vec Op g.row.A.Denot)). ArePlayable (map (λ v. v.items) l) c.registers-registers.result) (sym c.as_slice-scripts.ensures.value)
    (subst (λ n. ArePlayable work.scripts n) (sym c.registers-registers.ensures.value) (playable work c.work.invariant))

pub returns-in-Ok : goal.returns-in-Ok
returns-in-Ok g c plays unfinished counted =
    let scripts : List (List Op) = map (λ v. v.items) c.as_slice-scripts.result.now in
    let same : scripts ≡ c.args.work.now.scripts = ap (λ (l : List (Vec Op g.row.A.Denot)). map (λ v. v.items) l) c.as_slice-scripts.ensures.value ∙ ap (λ (w : Load). w.scripts) c.work.view_is in
    let many : c.registers-registers.result ≡ c.args.work.now.shape.registers = c.registers-registers.ensures.value ∙ ap (λ (w : Load). w.shape.registers) c.work.view_is in
    tells_few scripts c.args.work.now.scripts c.registers-registers.result c.args.work.now.shape.registers same many plays c.in-Ok.all.stages c.undrawn_of.result c.in-Ok.all.list.items c.as_slice.result.now
    c.in-Ok.ensures.stages c.in-Ok.ensures.few c.in-Ok.ensures.outcomes c.as_slice.ensures.value (c.undrawn_of.ensures plays unfinished counted)

pub returns-in-Err-TooManyStages : goal.returns-in-Err-TooManyStages
returns-in-Err-TooManyStages g c plays unfinished counted =
    let scripts : List (List Op) = map (λ v. v.items) c.as_slice-scripts.result.now in
    let same : scripts ≡ c.args.work.now.scripts = ap (λ (l : List (Vec Op g.row.A.Denot)). map (λ v. v.items) l) c.as_slice-scripts.ensures.value ∙ ap (λ (w : Load). w.scripts) c.work.view_is in
    let many : c.registers-registers.result ≡ c.args.work.now.shape.registers = c.registers-registers.ensures.value ∙ ap (λ (w : Load). w.shape.registers) c.work.view_is in
    tells_many scripts c.args.work.now.scripts c.registers-registers.result c.args.work.now.shape.registers same many plays
    (subst (λ (f : InterleavingFault). IsFewFault scripts c.registers-registers.result MOST_COUNTED_STAGES f) c.in-Err-TooManyStages.field-0-is c.in-Err-TooManyStages.ensures.refused)
