use Rattle.std.proofs.Common.{◌≡◌, ◌∷◌, ◌++◌, [], List, length, drop, get_or, ap, ◌∙◌, subst, arith}
use Rattle.std.proofs.lemmas.List.{take_at}
use Rattle.std.proofs.lemmas.Option.{slice_get-get_or}
use Rattle.reg_base.specs.declared.memory.OpId.{OpId}
use Rattle.reg_base.specs.Memory.{after}
use Rattle.reg_base.proofs.Operations.{length-after}
use Rattle.reg_checkers.specs.History.{IsAt}
use Rattle.reg_checkers.proofs.OwnOrder.{zip_more}
use Rattle.reg_verify.specs.Stories.{IsWrittenBy}
use Rattle.reg_verify.proofs.Opened.{memory_push}
use Rattle.reg_verify.proofs.stories.openings.values_after.Goals as goal

no_id : OpId
no_id = record { process = 0; number = 0 }

pub op_of-op-requires-clause-called : goal.op_of-op-requires-clause-called
unfolding no_id
op_of-op-requires-clause-called g c =
    let order = c.order-order.result.now in
    let place = c.loop-place.place in
    c.requires place (get_or order place no_id) (subst (λ (l : List OpId). IsAt l place (get_or order place no_id)) c.order-order.ensures (slice_get-get_or order place no_id c.loop-place-test.true))

pub loop-place-preserved : goal.loop-place-preserved
unfolding no_id
loop-place-preserved g c =
    let r = c.args.report.now in
    let order = c.order-order.result.now in
    let place = c.loop-place.place in
    let items = c.loop-place.values.items in
    let op = c.op_of-op.result in
    let before = c.loop-place.invariant in
    let new : c.apply_to.new.memory ≡ after op items = rw c.deref_mut.ensures.value at c.apply_to.ensures.memory in
    let long : length c.apply_to.new.memory ≡ length items = ap length new ∙ length-after op items in
    let back = take_at c.apply_to.new.memory (drop (length c.apply_to.new.memory) items) c.loop-place.values.len (omega (arith, long, c.loop-place.values.ok.0)) in
    record {
      ends = (before.ends.0 ++ op ∷ [], zip_more (λ id o. IsWrittenBy r id o) order before.ends.0 place no_id op c.loop-place-test.true before.ends.1 c.op_of-op.ensures.called, back ∙ (new ∙ (ap (after op) before.ends.2 ∙ memory_push r.shape.registers before.ends.0 op)));
      room = ap length back ∙ (long ∙ before.room);
    }
