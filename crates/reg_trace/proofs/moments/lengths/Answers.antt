use Rattle.std.proofs.Common.{◌<◌, ◌∙◌, ap, set, arith, length}
use Rattle.std.specs.Prelude.{slice_index}
use Rattle.std.proofs.lemmas.List.{length-set}
use Rattle.reg_base.specs.Shape.{Extent}
use Rattle.reg_world.specs.Worlds.{run_in}
use Rattle.reg_trace.proofs.Behind.{length_noted, length_passed}
use Rattle.reg_trace.proofs.moments.lengths.Goals.{in-Some, in_default}
use Rattle.reg_trace.proofs.moments.lengths.Goals as goal

pub loop-to-preserved : goal.loop-to-preserved
loop-to-preserved g c =
    let wire = ((run_in g.F.FrontEnd.start c.args.world.now).nodes c.args.process).wire in
    let room : c.loop-to.to < length c.loop-to.lengths = omega (arith, c.loop-to.invariant.0, c.loop-to-test.true, c.processes-to-end.ensures.in_range) in
    let known : c.loop-to.to < c.args.world.now.processes = omega (arith, c.loop-to-test.true, c.processes-to-end.ensures.value, ap (λ (s : Extent). s.processes) c.shape.ensures) in
    elim c.match-wire.branch [
      | in-Some w ↦ (
        ap length w.lengths-is ∙ (length-set c.loop-to.lengths w.from.result (length w.in-Some.frames.now) ∙ c.loop-to.invariant.0),
        λ k lt ne. ap (λ l. slice_index l k) (w.lengths-is ∙ ap (λ j. set c.loop-to.lengths j (length w.in-Some.frames.now)) w.from.ensures)
            ∙ length_noted c.loop-to.lengths wire c.args.process c.loop-to.to (length w.in-Some.frames.now) c.loop-to.invariant.1 room (ap length (w.in-Some.ensures.3 c.requires.going)) k lt ne,
      )
      | in_default w ↦ (
        ap length w.lengths-is ∙ c.loop-to.invariant.0,
        λ k lt ne. ap (λ l. slice_index l k) w.lengths-is ∙ length_passed c.loop-to.lengths wire c.args.process c.loop-to.to c.args.world.now.processes c.loop-to.invariant.1 c.requires.process known w.in_default.ensures k lt ne,
      )
    ]
