use Rattle.std.proofs.Common.{◌++◌, ◌∙◌, refl, ap, arith}
use Rattle.std.proofs.lemmas.List.{take_rest}
use Rattle.std.proofs.lemmas.Result.{on_ok_weaker}
use Rattle.reg_world.specs.Witnesses.{is_kept}
use Rattle.reg_world.proofs.code.Reading.{merged_more, merged_all, ids_read}
use Rattle.reg_world.proofs.witnesses.push_merged.Goals as goal

pub loop-place-preserved : goal.loop-place-preserved
loop-place-preserved g c =
    merged_more (is_kept c.args.callers.now) c.args.reads.now c.args.order.now _ c.loop-place.place c.loop-place.next c.in_ok-next.field-0 c.loop-place.ids.items c.push_reads.new.ids.items c.push_kept.new.ids.items _ (omega arith) c.loop-place.invariant c.in_ok-next.ensures c.in_ok-push_kept.ensures

pub returns : goal.returns
returns g c =
    let reads = c.args.reads.now in
    let next = c.loop-place.next in
    on_ok_weaker c.push_ids.result
    (λ added. merged_all (is_kept c.args.callers.now) reads c.args.order.now c.args.ids.now.items c.loop-place.place next c.loop-place.ids.items c.push_ids.new.ids.items (omega arith) c.loop-place.invariant (added ∙ ap (λ l. c.loop-place.ids.items ++ ids_read l) (take_rest reads next)))
    c.push_ids.ensures

pub loop-place-init : goal.loop-place-init
loop-place-init g c = record { within = omega arith; added = refl }
