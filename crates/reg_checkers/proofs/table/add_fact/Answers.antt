use Rattle.std.proofs.Common.{◌≡◌, ℕ, ◌<◌, length, get_or, refl, subst, arith}
use Rattle.std.proofs.lemmas.Option.{slice_get_read}
use Rattle.reg_checkers.proofs.Tables.{changed_by_push}
use Rattle.reg_checkers.proofs.table.add_fact.Goals as goal

pub returns-clause-changed : goal.returns-clause-changed
returns-clause-changed g c =
    let rows = c.args.rows.now.items in
    let row = c.index_mut.result.now in
    let p = c.args.id.process in
    let inside : p < length rows = omega (arith, c.args.rows.now.ok.0, c.requires.process) in
    let read : row ≡ get_or rows p row = subst (λ (k : ℕ). row ≡ get_or rows k row) c.from.ensures c.index_mut.ensures.value in
    rw c.from.ensures (changed_by_push rows c.args.id c.args.fact row c.push.new.self (slice_get_read rows (length rows) p row refl inside read) c.in_ok-push.ensures.items c.requires.next)
