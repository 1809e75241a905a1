use Rattle.std.proofs.Common.{sym, arith}
use Rattle.reg_checkers.proofs.Noting.{read_at}
use Rattle.reg_judge.proofs.Keying.{gets_none, gets_row}
use Rattle.reg_judge.proofs.rulings.keys.add_row.Goals as goal

pub returns-in_ok-push : goal.returns-in_ok-push
returns-in_ok-push g c =
    let parts = c.args.parts.now.items in
    let was = c.index_mut.result.now in
    let many = c.len.ensures in
    let inside = c.if-key-len.true in
    gets_row c.args.row parts was c.push.new.self (read_at parts c.args.row.key was was (sym c.index_mut.ensures.value) (omega (arith, many, inside))) c.in_ok-push.ensures.items

pub returns-else-key-len : goal.returns-else-key-len
returns-else-key-len g c =
    let many = c.len.ensures in
    let outside = c.if-key-len.false in
    gets_none c.args.row c.args.parts.now.items (omega (arith, many, outside))
