use Rattle.std.proofs.Common.{◌≡◌, ap, sym, ◌∙◌, arith}
use Rattle.std.specs.Prelude.{slice_index}
use Rattle.reg_base.specs.Shape.{Extent}
use Rattle.reg_checkers.specs.Progress.{op_of}
use Rattle.reg_outcomes.proofs.NextAnswers.{complete, has_answer, has_none, incomplete, none_more}
use Rattle.reg_outcomes.proofs.orders.finder.Finder.is_complete.Goals as goal

pub returns-then-is_some : goal.returns-then-is_some
returns-then-is_some g c =
    let h = c.args.self.now.entries in
    let next = c.args.next.now in
    let p = c.loop-process.process in
    incomplete h next p (has_answer h (op_of p (slice_index next p)) c.next_answer.result c.next_answer.ensures (sym c.is_some.ensures ∙ c.if-is_some.true))

pub loop-process-preserved : goal.loop-process-preserved
loop-process-preserved g c =
    let h = c.args.self.now.entries in
    let next = c.args.next.now in
    let p = c.loop-process.process in
    none_more h next p c.loop-process.invariant (has_none h (op_of p (slice_index next p)) c.next_answer.result c.next_answer.ensures (sym c.is_some.ensures ∙ c.if-is_some.false))

pub returns : goal.returns
returns g c =
    let s = c.args.self.now in
    let e = c.processes-processes.ensures.value in
    let same : c.shape.result.processes ≡ s.shape.processes = ap (λ (x : Extent). x.processes) c.shape.ensures in
    let end = c.loop-process-test.false in
    complete s.shape.processes s.shape.registers s.entries c.requires c.args.next.now (λ p lt. c.loop-process.invariant p (omega (arith, lt, e, same, end)))
