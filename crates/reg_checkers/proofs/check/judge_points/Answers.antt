use Rattle.std.proofs.lemmas.Result.{err_from_is_err_and}
use Rattle.reg_checkers.specs.Checks.{ids_of}
use Rattle.reg_checkers.proofs.Bridges.{registers_fit}
use Rattle.reg_checkers.proofs.PointFacts.{selection_fault, same_length}
use Rattle.reg_checkers.proofs.Verdicts.{point_answer, points}
use Rattle.reg_checkers.proofs.check.judge_points.Goals as goal

pub returns-in_err-facts : goal.returns-in_err-facts
returns-in_err-facts g c =
    let p = err_from_is_err_and c.from_residual.result c.from_residual.ensures.1 in
    rw (p.1, p.2) (selection_fault c.args.shape.registers c.args.entries.now c.args.points.now c.in_err-facts.field-0.0 (rw (c.deref.ensures.value, c.in-Ok.ensures) at c.in_err-facts.ensures))

pub check_answers-requires : goal.check_answers-requires
check_answers-requires g c =
    let sel = rw (c.deref.ensures.value, c.in-Ok.ensures) at c.in_ok-facts.ensures in
    rw c.deref-2.ensures.value (registers_fit c.args.shape.processes c.args.shape.registers c.args.entries.now c.requires (ids_of c.args.points.now) c.in_ok-facts.facts.items sel.0.facts_of)

pub returns-in_err-check_answers : goal.returns-in_err-check_answers
returns-in_err-check_answers g c =
    let sel = rw (c.deref.ensures.value, c.in-Ok.ensures) at c.in_ok-facts.ensures in
    let p = err_from_is_err_and c.from_residual-in_err-check_answers.result c.from_residual-in_err-check_answers.ensures.1 in
    rw (p.1, p.2) (point_answer c.args.shape.processes c.args.shape.registers c.args.entries.now c.requires c.args.points.now c.in_ok-facts.facts.items sel.0 sel.1 c.in_err-check_answers.field-0.0 (rw c.deref-2.ensures.value at c.in_err-check_answers.ensures.wrong))

pub check_places-requires : goal.check_places-requires
check_places-requires g c =
    let sel = rw (c.deref.ensures.value, c.in-Ok.ensures) at c.in_ok-facts.ensures in
    rw c.deref-3.ensures.value (same_length c.args.shape.processes c.args.shape.registers c.args.entries.now c.requires c.args.points.now c.in_ok-facts.facts.items sel.0.facts_of)

pub returns : goal.returns
returns g c =
    let sel = rw (c.deref.ensures.value, c.in-Ok.ensures) at c.in_ok-facts.ensures in
    let right = rw c.deref-2.ensures.value at c.in_ok-check_answers.ensures.right in
    points c.args.shape.processes c.args.shape.registers c.args.entries.now c.requires c.args.points.now c.in_ok-facts.facts.items sel.0 sel.1 right c.check_places.result
    (rw c.deref-3.ensures.value at c.check_places.ensures.right) (rw c.deref-3.ensures.value at c.check_places.ensures.wrong)
