use Rattle.std.proofs.Common.{List, ◌∷◌, ◌++◌, codes, inl, length, map}
use Rattle.std.specs.Fmt.{decimal}
use Rattle.reg_base.specs.declared.memory.OpId.{OpId}
use Rattle.reg_history.specs.IdLines.{id_text, IdFits}
use Rattle.reg_history.specs.LineForms.{HasIdForm, IsBadLine}
use Rattle.reg_history.specs.Refusals.{IsWrongCounted, IsWrongLists, IsWrongTail}
use Rattle.reg_history.specs.declared.report_limits.TheConstants.{MOST_IDS}
use Rattle.reg_history.proofs.Endings.{lists_tail}
use Rattle.reg_history.proofs.Stopping.{failure_passed_on, fails_as, fails_behind}
use Rattle.reg_history.specs.Reports.{tail_lines}
use Rattle.reg_history.proofs.PassedOn.{memory_passed_on}
use Rattle.reg_history.proofs.parts.read_lists.Goals as goal

pub returns-in_err-order-clause-whole : goal.returns-in_err-order-clause-whole
returns-in_err-order-clause-whole g c = λ order points counted fit.
    memory_passed_on c.from_residual.result _ _ c.from_residual.ensures.1 (c.in_err-order.ensures.whole order (tail_lines points) counted)

pub returns-in_err-points-clause-whole : goal.returns-in_err-points-clause-whole
returns-in_err-points-clause-whole g c = λ order points counted fit.
    let first = c.in_ok-order.ensures.whole order (tail_lines points) counted in
    memory_passed_on c.from_residual-in_err-points.result _ _ c.from_residual-in_err-points.ensures.1 (c.in_err-points.ensures.whole points fit first.1)

pub returns-clause-read : goal.returns-clause-read
returns-clause-read g c = (c.read_order.new.lines.left, c.in_ok-order.ensures.read, c.in_ok-points.ensures.read.0, c.in_ok-points.ensures.read.1)

pub returns-clause-whole : goal.returns-clause-whole
returns-clause-whole g c = λ order points counted fit.
    let first = c.in_ok-order.ensures.whole order (tail_lines points) counted in
    (first.0, c.in_ok-points.ensures.whole points fit first.1)

pub returns-in_err-order-clause-stopped : goal.returns-in_err-order-clause-stopped
returns-in_err-order-clause-stopped g c =
    failure_passed_on c.from_residual.result _ _ c.from_residual.ensures.1
    (fails_as (IsWrongLists c.args.version) (IsWrongCounted (codes "order ") 0 MOST_IDS id_text (λ (_ : List OpId) (x : OpId). IdFits c.args.version x) (λ _. IsBadLine id_text (IdFits c.args.version) HasIdForm)) c.args.lines.now c.in_err-order.field-0.0 (λ before next why w. inl w) c.in_err-order.ensures.stopped)

pub returns-in_err-points-clause-stopped : goal.returns-in_err-points-clause-stopped
returns-in_err-points-clause-stopped g c =
    let read = c.in_ok-order.ensures.read in
    let order = c.in_ok-order.order.items in
    failure_passed_on c.from_residual-in_err-points.result _ _ c.from_residual-in_err-points.ensures.1
    (fails_behind (IsWrongLists c.args.version) (IsWrongTail c.args.version) ((codes "order " ++ decimal (length order)) ∷ map id_text order) c.args.lines.now c.read_order.new.lines c.in_err-points.field-0.0 read.lines c.in_ok-order.ensures.on
    (lists_tail c.args.version order c.args.lines.now.left c.read_order.new.lines.left read) c.in_err-points.ensures.stopped)
