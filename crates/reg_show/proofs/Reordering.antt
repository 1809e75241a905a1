-- A report with another order is one, and what is told of it.
use Rattle.std.proofs.Common.{ℕ, ◌≡◌, inl, inr, true, false, List, Option, sym, subst}
use Rattle.reg_base.specs.Shape.{Extent}
use Rattle.reg_base.specs.declared.memory.OpId.{OpId}
use Rattle.reg_checkers.specs.declared.entries.Entry.{Entry}
use Rattle.reg_checkers.specs.declared.entries.Point.{Point}
use Rattle.reg_checkers.specs.Orders.{IsPointOrder, IsSerial}
use Rattle.reg_commands.specs.Replays.{PointsStand}
use Rattle.reg_commands.proofs.WithinReport.{in_range}
use Rattle.reg_history.specs.Reports.{Contents, IsReport, IsReportFault, SpellsReport, report_text}
use Rattle.reg_history.specs.declared.report_faults.ReportFault.{ReportFault}
use Rattle.reg_history.specs.declared.report_faults.ReportFault.TheVariants.{Front as FrontFault, Names as NamesFault}
use Rattle.reg_history.specs.declared.report_faults.ReportFault.TheVariants.{Range as RangeFault}
use Rattle.reg_outcomes.specs.declared.orders.kinds.OrderKind.{OrderKind}
use Rattle.reg_show.specs.declared.faults.ShowFault.{ShowFault}
use Rattle.reg_show.specs.Finding.{BlamesFind, Finds, HasNone, IsReordered, IsUnfound, none_text, with_order}

-- a report with such an order is refused for no reason
pub never_refused : (r : Contents) → IsReport r → (ids : List OpId) (points : Option (List Point)) (fault : ReportFault)
    → IsSerial r.shape.registers r.entries ids → PointsStand r.shape.registers r.entries points
    → IsReportFault (with_order r ids points) fault → ⊥
never_refused r good ids points FrontFault serial stand refused = refused good.front
never_refused r good ids points NamesFault serial stand refused = refused.1 good.registers
never_refused r good ids points RangeFault serial stand refused = refused.2 (in_range r.shape.processes r.shape.registers r.entries good.history good.processes ids points serial stand)

-- what is said of a history is said of the report that has it
module _ (shape : Extent) (entries : List Entry) (r : Contents) (same_shape : shape ≡ r.shape) (same_entries : entries ≡ r.entries) where
  pub serial_here : (ids : List OpId) → IsSerial r.shape.registers r.entries ids → IsSerial shape.registers entries ids
  serial_here ids serial = subst (λ (es : List Entry). IsSerial shape.registers es ids) (sym same_entries) (subst (λ (x : Extent). IsSerial x.registers r.entries ids) (sym same_shape) serial)

  pub points_there : (ps : List Point) → IsPointOrder shape.registers entries ps
      → IsPointOrder r.shape.registers r.entries ps
  points_there ps order = subst (λ (x : Extent). IsPointOrder x.registers r.entries ps) same_shape (subst (λ (es : List Entry). IsPointOrder shape.registers es ps) same_entries order)

-- what a fault of the search says of the text
pub blamed : (kind : OrderKind) (r : Contents) (text : List ℕ) (fault : ShowFault) → SpellsReport text r
    → IsUnfound kind r fault → BlamesFind kind fault text
blamed kind r text fault read (inl e) = subst (λ (f : ShowFault). BlamesFind kind f text) (sym e) tt
blamed kind r text fault read (inr (e, wide)) =
    subst (λ (f : ShowFault). BlamesFind kind f text) (sym e) (r, read, wide)

pub found_any : (kind : OrderKind) (Wrote : List ℕ → Type 0) (text : List ℕ) (r found : Contents) → SpellsReport text r
    → IsReordered kind r found → Wrote (report_text found) → Finds kind true Wrote text
found_any kind Wrote text r found read reordered written =
    record { report = r; read = read; found = found; reordered = reordered; written = written }

pub none_any : (kind : OrderKind) (Wrote : List ℕ → Type 0) (text : List ℕ) (r : Contents) → SpellsReport text r
    → HasNone kind r → Wrote (none_text kind) → Finds kind false Wrote text
none_any kind Wrote text r read none written = record { report = r; read = read; none = none; written = written }
