use Rattle.std.proofs.Common.{◌≡◌, ℕ, ◌<◌, length, get_or, refl, subst, arith}
use Rattle.std.proofs.lemmas.Option.{slice_get_read}
use Rattle.reg_verify.proofs.Logged.{added}
use Rattle.reg_verify.proofs.logs.add.Goals as goal

pub returns-clause-added : goal.returns-clause-added
returns-clause-added g c =
    let rows = c.args.logs.now.items in
    let row = c.index_mut.result.now in
    let p = c.args.process in
    let inside : p < length rows = omega (arith, c.args.logs.now.ok.0, c.requires) in
    let read : row ≡ get_or rows p row = subst (λ (k : ℕ). row ≡ get_or rows k row) c.from.ensures c.index_mut.ensures.value in
    rw c.from.ensures (added rows p c.args.entry row c.push.new.self inside (slice_get_read rows (length rows) p row refl inside read) c.in_ok-push.ensures.items)
