use Rattle.std.proofs.Common.{◌≡◌, List, map, ap, sym, ◌∙◌, subst}
use Rattle.std.specs.Prelude.{Vec}
use Rattle.std.specs.Option.{option_map}
use Rattle.std.specs.Io.KnownBytes.{Appends}
use Rattle.reg_text.specs.Writing.{AppendsPart}
use Rattle.reg_base.specs.declared.memory.Op.{Op}
use Rattle.reg_commands.specs.declared.faults.Fault.TheVariants.{Output}
use Rattle.reg_inputs.specs.Loads.{Load}
use Rattle.reg_outcomes.specs.Interleavings.{ArePlayable}
use Rattle.reg_outcomes.proofs.Leading.{few_operations}
use Rattle.reg_show.specs.declared.faults.ShowFault.TheVariants.{Command}
use Rattle.reg_outcomes.proofs.Playable.{playable}
use Rattle.reg_show.proofs.Shown.{if_in_part, if_sent, shows}
use Rattle.reg_show.proofs.every.EveryOutcomeWorkCommand.show.Goals as goal

pub all_outcomes-requires-clause-playable : goal.all_outcomes-requires-clause-playable
all_outcomes-requires-clause-playable g c =
    let i = c.work.inside in
    let work : Load = record { shape = i.shape; names = i.names; front = i.front; scripts = map (λ s. s.items) i.scripts.items; seed = i.seed; loss = i.loss; repeat = i.repeat; budget = i.budget } in
    subst (λ (l : List (Vec Op g.row.A.Denot)). ArePlayable (map (λ v. v.items) l) c.registers-registers.result) (sym c.as_slice-scripts.ensures.value)
    (subst (λ n. ArePlayable work.scripts n) (sym c.registers-registers.ensures.value) (playable work c.work.invariant))

pub count_operations-requires : goal.count_operations-requires
count_operations-requires g c =
    let i = c.work.inside in
    let work : Load = record { shape = i.shape; names = i.names; front = i.front; scripts = map (λ s. s.items) i.scripts.items; seed = i.seed; loss = i.loss; repeat = i.repeat; budget = i.budget } in
    few_operations (map (λ v. v.items) c.as_slice-scripts.result.now) i.shape.registers
    (subst (λ (l : List (Vec Op g.row.A.Denot)). ArePlayable (map (λ v. v.items) l) i.shape.registers) (sym c.as_slice-scripts.ensures.value) (playable work c.work.invariant))

pub returns-clause-ok : goal.returns-clause-ok
returns-clause-ok g c =
    let scripts : List (List Op) = map (λ v. v.items) c.as_slice-scripts.result.now in
    let same : scripts ≡ c.args.work.scripts = ap (λ (l : List (Vec Op g.row.A.Denot)). map (λ v. v.items) l) c.as_slice-scripts.ensures.value ∙ ap (λ (w : Load). w.scripts) c.work.view_is in
    let many : c.registers-registers.result ≡ c.args.work.shape.registers = c.registers-registers.ensures.value ∙ ap (λ (w : Load). w.shape.registers) c.work.view_is in
    if_sent _ _ c.send.result
    (shows scripts c.args.work.scripts c.registers-registers.result c.args.work.shape.registers same many c.count_operations.result c.in_ok-all.all.stages c.in_ok-all.all.list.items c.as_slice.result.now
    (option_map (λ list. map (λ v. v.items) list.items) c.in_ok-nevers.nevers) c.count_operations.ensures c.in_ok-all.ensures.outcomes c.in_ok-all.ensures.stages c.as_slice.ensures.value c.in_ok-nevers.ensures
    (Appends (g.W.Write.contents c.args.writer.now) (g.W.Write.contents c.send.new.writer))) c.send.ensures

pub returns-clause-part : goal.returns-clause-part
returns-clause-part g c =
    let scripts : List (List Op) = map (λ v. v.items) c.as_slice-scripts.result.now in
    let same : scripts ≡ c.args.work.scripts = ap (λ (l : List (Vec Op g.row.A.Denot)). map (λ v. v.items) l) c.as_slice-scripts.ensures.value ∙ ap (λ (w : Load). w.scripts) c.work.view_is in
    let many : c.registers-registers.result ≡ c.args.work.shape.registers = c.registers-registers.ensures.value ∙ ap (λ (w : Load). w.shape.registers) c.work.view_is in
    if_in_part _ _ c.send.result (Command Output)
    (λ h. shows scripts c.args.work.scripts c.registers-registers.result c.args.work.shape.registers same many c.count_operations.result c.in_ok-all.all.stages c.in_ok-all.all.list.items c.as_slice.result.now
    (option_map (λ list. map (λ v. v.items) list.items) c.in_ok-nevers.nevers) c.count_operations.ensures c.in_ok-all.ensures.outcomes c.in_ok-all.ensures.stages c.as_slice.ensures.value c.in_ok-nevers.ensures
    (AppendsPart (g.W.Write.contents c.args.writer.now) (g.W.Write.contents c.send.new.writer)) h.1) c.send.ensures
