use Rattle.std.proofs.Common.{◌+◌, List, sym, subst, take}
use Rattle.std.specs.List.{AllZip}
use Rattle.reg_checkers.specs.declared.entries.Entry.{Entry}
use Rattle.reg_checkers.specs.Table.{IsTable, Rows}
use Rattle.reg_checkers.proofs.OwnOrder.{zip_all, zip_more}
use Rattle.reg_judge.specs.Reported.{AreRowsOf, IsRowOf}
use Rattle.reg_judge.specs.declared.rulings.rows.Row.{Row}
use Rattle.reg_judge.proofs.rulings.history_rows.rows_of.Goals as goal

pub loop-entry-preserved : goal.loop-entry-preserved
loop-entry-preserved g c =
    let es = c.entries-entries.result.now in
    let k = c.loop-entry.entry-index in
    let table : IsTable es c.deref.result.now = subst (λ (t : Rows g.row.A.Denot). IsTable es t) (sym c.deref.ensures.value) c.in_ok-table.ensures.table in
    subst (λ (l : List Row). AllZip (IsRowOf es) (take (k + 1) es) l) (sym c.in_ok-push.ensures.items)
    (zip_more (IsRowOf es) es c.loop-entry.rows.items k _ c.in-Some.row c.loop-entry-test.true c.loop-entry.invariant (c.in-Some.ensures es table))

pub returns : goal.returns
returns g c =
    let es = c.entries-entries.result.now in
    subst (λ (l : List Entry). AreRowsOf l c.loop-entry.rows.items) c.entries-entries.ensures.value (zip_all (IsRowOf es) es c.loop-entry.rows.items c.loop-entry.entry-index c.loop-entry-test.false c.loop-entry.invariant)
