use Rattle.std.proofs.Common.{arith}
use Rattle.std.proofs.lemmas.Result.{err_from_is_err_and}
use Rattle.reg_outcomes.specs.Layers.{stage_of}
use Rattle.reg_outcomes.proofs.Searching.{fits, goes_back, noted, over, over_full}
use Rattle.reg_outcomes.proofs.orders.finding.go_back.Goals as goal

pub returns-in_err-note-clause-refused : goal.returns-in_err-note-clause-refused
returns-in_err-note-clause-refused g c =
    let s = c.args.finder.now in
    let p = err_from_is_err_and c.from_residual-in_err-note.result c.from_residual-in_err-note.ensures.1 in
    rw (p.1, p.2) (over_full s c.requires.history c.args.walk.now c.args.failed.now c.requires.search c.len.result (stage_of c.in_ok-copied.field-0) c.in_err-note.field-0.0 (let is = c.len.ensures in let ok = c.args.walk.now.path.ok.0 in omega (arith, is, ok)) c.in_ok-copied.ensures c.in_err-note.ensures.refused)

pub back-requires : goal.back-requires
back-requires g c = fits c.args.finder.now c.requires.history c.args.walk.now c.args.failed.now c.requires.search

pub returns-then-back-clause-turned : goal.returns-then-back-clause-turned
returns-then-back-clause-turned g c =
    let s = c.args.finder.now in
    let after = noted s c.requires.history c.args.walk.now c.args.failed.now c.requires.search c.note.new.self c.len.result (stage_of c.in_ok-copied.field-0) (let is = c.len.ensures in let ok = c.args.walk.now.path.ok.0 in omega (arith, is, ok)) c.in_ok-copied.ensures c.requires.fails c.in_ok-note.ensures.noted c.note.ensures.limit in
    let back = c.back.ensures.back c.if-back.true in
    goes_back s c.requires.history c.args.walk.now c.note.new.self after back.0 c.back.new.self c.requires.fails back.1 back.2 back.3

pub returns-else-back-clause-turned : goal.returns-else-back-clause-turned
returns-else-back-clause-turned g c = over c.args.finder.now c.requires.history c.args.walk.now c.args.failed.now c.requires.search (c.back.ensures.none c.if-back.false) c.requires.fails
