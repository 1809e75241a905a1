use Rattle.std.proofs.Common.{get_or, arith}
use Rattle.std.proofs.lemmas.Option.{slice_get-get_or, slice_get_within}
use Rattle.reg_base.specs.declared.memory.Op.TheVariants.{Read}
use Rattle.reg_verify.proofs.Opened.{opens_more}
use Rattle.reg_verify.proofs.stories.openings.first_unopened.Goals as goal

pub loop-place-preserved : goal.loop-place-preserved
loop-place-preserved g c =
    let writes = c.args.writes.now in
    let place = c.loop-place.place in
    let here = slice_get-get_or writes place (Read 0) c.loop-place-test.true in
    opens_more writes c.args.report.now place (get_or writes place (Read 0)) c.loop-place.invariant here (c.was_called_as.ensures.0 c.if-not-was_called_as.false) (rw c.order.ensures at (c.opens_at.ensures.0 c.if-not-opens_at.false))

pub returns : goal.returns
returns g c = λ number op at.
    let within = slice_get_within c.args.writes.now number op at in
    c.loop-place.invariant number op (omega (arith, within, c.loop-place-test.false)) at
