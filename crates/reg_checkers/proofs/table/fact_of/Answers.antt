use Rattle.std.proofs.Common.{◌≡◌, ◌<◌, ◌≤◌, ℕ, List, length, get_or, Option, None, Some, Vec, option_and_then}
use Rattle.std.proofs.Common.{slice_get, refl, sym, ap, ◌∙◌, arith}
use Rattle.std.proofs.lemmas.Option.{slice_get_past, slice_get_read}
use Rattle.std.specs.Borrow.{Bor}
use Rattle.std.specs.Option.{option_copied}
use Rattle.std.specs.Slice.{IsItemAt}
use Rattle.reg_base.specs.declared.memory.OpId.{OpId}
use Rattle.reg_checkers.specs.declared.facts.Fact.{Fact}
use Rattle.reg_checkers.specs.Table.{Rows, cell}
use Rattle.reg_checkers.proofs.Tables.{cell_of}
use Rattle.reg_checkers.proofs.table.fact_of.Goals as goal

no_row : {A : Type 0} (rows : Rows A) (id : OpId) (p : ℕ) → p ≡ id.process → length rows ≤ p → cell rows id ≡ None
no_row {A = A} rows id p same past =
    ap (λ (o : Option (Vec Fact A)). option_and_then (λ (r : Vec Fact A). slice_get r.items id.number) o) (slice_get_past rows id.process (omega (arith, same, past)))

in_row : {A : Type 0} (rows : Rows A) (id : OpId) (p : ℕ) (row : Vec Fact A) → p ≡ id.process → p < length rows
    → row ≡ get_or rows p row → cell rows id ≡ slice_get row.items id.number
in_row rows id p row same within read =
    cell_of rows id row (slice_get_read rows (length rows) id.process row refl (omega (arith, same, within)) (read ∙ ap (λ (k : ℕ). get_or rows k row) same))

copied_at : {X : Type 0} (xs : List X) (i : ℕ) (r : Option (Bor X)) → IsItemAt xs i r → option_copied r ≡ slice_get xs i
copied_at xs i None h = sym (slice_get_past xs i h.3)
copied_at xs i (Some x) h = sym (slice_get_read xs (length xs) i x.now refl h.3.0 h.1)

pub returns-in_err-row : goal.returns-in_err-row
returns-in_err-row g c = c.from_residual.ensures ∙ sym (no_row c.args.rows.now c.args.id c.from.result c.from.ensures c.in_err-row.ensures.lookup.3)

pub returns : goal.returns
returns g c =
    let lookup = c.in_ok-row.ensures.lookup in
    c.copied.ensures ∙ copied_at c.deref.result.now c.args.id.number c.get-2.result c.get-2.ensures.lookup ∙ ap (λ (xs : List Fact). slice_get xs c.args.id.number) c.deref.ensures.value
    ∙ sym (in_row c.args.rows.now c.args.id c.from.result c.in_ok-row.row.now c.from.ensures lookup.3.0 lookup.1)
