use Rattle.std.proofs.Common.{◌≡◌, ℕ, ◌<◌, length, get_or, refl, subst, arith}
use Rattle.std.specs.Vec.{with_item}
use Rattle.std.proofs.lemmas.Option.{slice_get_read}
use Rattle.reg_checkers.proofs.Tables.{changed_by_set, has_row}
use Rattle.reg_checkers.proofs.table.set_fact.Goals as goal

pub index_mut-requires : goal.index_mut-requires
index_mut-requires g c =
    let inside = has_row c.args.rows.now.items c.args.id c.requires in omega (arith, inside, c.from.ensures)

pub returns-clause-changed : goal.returns-clause-changed
returns-clause-changed g c =
    let rows = c.args.rows.now.items in
    let row = c.index_mut.result.now in
    let p = c.args.id.process in
    let inside : p < length rows = has_row rows c.args.id c.requires in
    let read : row ≡ get_or rows p row = subst (λ (k : ℕ). row ≡ get_or rows k row) c.from.ensures c.index_mut.ensures.value in
    rw c.from.ensures (changed_by_set rows c.args.id c.args.fact row (with_item row c.args.id.number c.args.fact) (slice_get_read rows (length rows) p row refl inside read) refl c.requires)
