use Rattle.std.proofs.Common.{◌≡◌, ◌≤◌, ◌<◌, true, List, length, None, option_map, sym, ap, subst, ◌∙◌, arith}
use Rattle.reg_base.specs.declared.limits.TheConstants.{MOST_PROCESSES}
use Rattle.reg_base.specs.Shape.{Extent}
use Rattle.reg_base.specs.Names.{names_fault}
use Rattle.reg_checkers.specs.declared.entries.Entry.{Entry}
use Rattle.reg_checkers.specs.History.{IsHistory}
use Rattle.reg_history.specs.Reports.{Contents, IsReport, InRange, is_front}
use Rattle.reg_history.specs.declared.versions.Version.TheVariants.{Three}
use Rattle.reg_text.proofs.Worded.{few}
use Rattle.reg_history.proofs.WithinLimits.{HaveValues, all_fit}
use Rattle.reg_history.proofs.reports.parts_fault.Goals as goal

made : (r : Contents) → is_front r.front ≡ true → names_fault r.names ≡ None → 0 < r.shape.processes
    → r.shape.processes ≤ MOST_PROCESSES → r.shape.registers ≡ length r.names
    → IsHistory r.shape.processes r.shape.registers r.entries → HaveValues r.entries
    → InRange Three r.entries r.order r.points → IsReport r
made r f n some least same h v i = record { front = f; names = n; few_names = few r.names n; some_process = some; processes = least; registers = same; history = h; entries = all_fit r.names r.shape.processes r.shape.registers r.entries least same h v; range = i }

pub returns : goal.returns
returns g c =
    let r : Contents = record { front = c.args.front.now; shape = c.args.history.now.shape; names = c.args.names.now; entries = c.args.history.now.entries; order = c.args.order.now; points = option_map (λ v. v.items) c.args.points.now } in
    let f : is_front r.front ≡ true = ap is_front (sym c.as_bytes.ensures.value) ∙ sym c.is_front.ensures ∙ c.if-not-is_front.false in
    let same : r.shape.registers ≡ length r.names = ap (λ (s : Extent). s.registers) (sym c.shape-shape.ensures) ∙ sym c.registers.ensures.value ∙ sym c.if-count-registers.false ∙ c.count.ensures.value in
    let V : List Entry → Type 0 = λ es. HaveValues es in
    let values : HaveValues r.entries = subst V c.entries-2.ensures.value c.values_have_bits.ensures in
    let E : List Entry → Type 0 = λ es. InRange Three es r.order r.points in
    let range : InRange Three r.entries r.order r.points = subst E c.entries.ensures.value (c.is_in_range.ensures.0 c.if-not-is_in_range.false) in
    let some : 0 < r.shape.processes = omega (arith, c.processes_fit.ensures.some, ap (λ (s : Extent). s.processes) c.shape-shape.ensures) in
    let least : r.shape.processes ≤ MOST_PROCESSES = omega (arith, c.processes_fit.ensures.few, ap (λ (s : Extent). s.processes) c.shape-shape.ensures) in
    made r f c.count.ensures.well some least same c.entries-2.ensures.in_place values range
