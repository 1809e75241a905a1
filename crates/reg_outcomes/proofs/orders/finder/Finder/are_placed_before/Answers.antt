use Rattle.std.proofs.Common.{◌≡◌, ◌<◌, refl, ap, arith}
use Rattle.std.specs.Prelude.{slice_index}
use Rattle.reg_base.specs.Shape.{Extent}
use Rattle.reg_checkers.specs.Progress.{op_of}
use Rattle.reg_checkers.proofs.Histories.{answer_is}
use Rattle.reg_outcomes.proofs.NextAnswers.{none_before_more, not_placed_before, placed_before}
use Rattle.reg_outcomes.proofs.orders.finder.Finder.are_placed_before.Goals.{in-Some+else-given-at, in-None}
use Rattle.reg_outcomes.proofs.orders.finder.Finder.are_placed_before.Goals as goal

pub returns-then-given-at : goal.returns-then-given-at
returns-then-given-at g c =
    let r = c.in-Some.given in
    let early : r.at < c.args.at = omega (arith, c.if-given-at.true) in
    (λ t. absurd cc, λ all. absurd (not_placed_before c.args.self.now.entries c.args.next.now c.loop-process.process c.args.at r.at r.answer c.in-Some.ensures early all))

pub loop-process-preserved : goal.loop-process-preserved
loop-process-preserved g c =
    let s = c.args.self.now in
    let next = c.args.next.now in
    let p = c.loop-process.process in
    none_before_more s.entries next p c.args.at c.loop-process.invariant (λ t b answered. elim c.match-next_answer.branch [
      | in-Some+else-given-at w ↦
          let r = w.in-Some.given in
          let same : t ≡ r.at = (answer_is s.shape.processes s.shape.registers s.entries c.requires (op_of p (slice_index next p)) t r.at b r.answer answered w.in-Some.ensures).0 in
          let late = w.if-given-at.false in
          omega (arith, same, late)
      | in-None w ↦ absurd (w.in-None.ensures (t, b, answered))
    ])

pub returns : goal.returns
returns g c =
    let s = c.args.self.now in
    let e = c.processes-processes.ensures.value in
    let same : c.shape.result.processes ≡ s.shape.processes = ap (λ (x : Extent). x.processes) c.shape.ensures in
    let end = c.loop-process-test.false in
    (λ t. placed_before s.shape.processes s.shape.registers s.entries c.requires c.args.next.now c.args.at (λ p lt. c.loop-process.invariant p (omega (arith, lt, e, same, end))), λ all. refl)
