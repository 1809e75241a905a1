use Rattle.std.proofs.Common.{ℕ, ◌∙◌, List, ap, subst, sym}
use Rattle.reg_base.specs.Shape.{Extent}
use Rattle.reg_checkers.specs.declared.entries.Entry.{Entry}
use Rattle.reg_judge.specs.declared.rulings.keys.Ruling.{Ruling}
use Rattle.reg_judge.specs.declared.rulings.rows.Row.{Row}
use Rattle.reg_judge.specs.Instead.{AreToldOf}
use Rattle.reg_judge.specs.Reported.{AreRowsOf}
use Rattle.reg_judge.specs.Rulings.{AreRuled, found_in}
use Rattle.reg_judge.proofs.Judging.{judged}
use Rattle.reg_judge.proofs.rulings.reported.judge_report.Goals as goal

pub returns-clause-judged : goal.returns-clause-judged
returns-clause-judged g c =
    let h = c.history-history.result.now in
    judged c.args.report.now h.shape h.entries c.history-history.ensures.shape c.history-history.ensures.entries (found_in c.in_ok-sought.sought) c.in_ok-rows.rows.items c.deref.result.now c.processes-processes.result c.registers.result c.in_ok-rulings.rulings.items c.in_ok-serial.serial
    (c.processes-processes.ensures.value ∙ ap (λ (x : Extent). x.processes) c.shape-shape.ensures) (c.registers.ensures.value ∙ ap (λ (x : Extent). x.registers) c.shape-shape.ensures) c.deref.ensures.value
    c.in_ok-sought.ensures c.in_ok-rows.ensures c.in_ok-rulings.ensures c.in_ok-serial.ensures

pub seek_by-requires : goal.seek_by-requires
seek_by-requires g c =
    let h = c.history-history.result.now in
    let processes = c.processes-processes.ensures.value ∙ ap (λ (x : Extent). x.processes) c.shape-shape.ensures in
    let registers = c.registers.ensures.value ∙ ap (λ (x : Extent). x.registers) c.shape-shape.ensures in
    let found : AreRuled c.processes-processes.result c.registers.result c.deref.result.now c.deref-4.result.now = subst (λ (l : List Ruling). AreRuled c.processes-processes.result c.registers.result c.deref.result.now l) (sym c.deref-4.ensures.value) c.in_ok-rulings.ensures in
    let rows : AreRuled c.processes-processes.result c.registers.result c.in_ok-rows.rows.items c.deref-4.result.now = subst (λ (l : List Row). AreRuled c.processes-processes.result c.registers.result l c.deref-4.result.now) c.deref.ensures.value found in
    let ruled : AreRuled c.processes-processes.result h.shape.registers c.in_ok-rows.rows.items c.deref-4.result.now = subst (λ (n : ℕ). AreRuled c.processes-processes.result n c.in_ok-rows.rows.items c.deref-4.result.now) registers rows in
    (c.in_ok-rows.rows.items, c.in_ok-rows.ensures, subst (λ (n : ℕ). AreRuled n h.shape.registers c.in_ok-rows.rows.items c.deref-4.result.now) processes ruled)

pub returns-clause-instead : goal.returns-clause-instead
returns-clause-instead g c =
    let h = c.history-history.result.now in
    let processes = c.processes-processes.ensures.value ∙ ap (λ (x : Extent). x.processes) c.shape-shape.ensures in
    let possible = c.in_ok-possible.possible.items in
    let rulings = c.in_ok-rulings.rulings.items in
    let named : AreToldOf c.processes-processes.result c.in_ok-rows.rows.items c.deref-3.result.now possible = subst (λ (l : List Row). AreToldOf c.processes-processes.result l c.deref-3.result.now possible) c.deref-2.ensures.value c.in_ok-possible.ensures in
    let told : AreToldOf c.processes-processes.result c.in_ok-rows.rows.items rulings possible = subst (λ (l : List Ruling). AreToldOf c.processes-processes.result c.in_ok-rows.rows.items l possible) c.deref-3.ensures.value named in
    let counted : AreToldOf h.shape.processes c.in_ok-rows.rows.items rulings possible = subst (λ (n : ℕ). AreToldOf n c.in_ok-rows.rows.items rulings possible) processes told in (
      c.in_ok-rows.rows.items,
      subst (λ (es : List Entry). AreRowsOf es c.in_ok-rows.rows.items) c.history-history.ensures.entries c.in_ok-rows.ensures,
      subst (λ (x : Extent). AreToldOf x.processes c.in_ok-rows.rows.items rulings possible) c.history-history.ensures.shape counted,
    )
