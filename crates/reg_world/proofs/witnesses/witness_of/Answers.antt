use Rattle.std.proofs.Common.{◌≡◌, ◌++◌, ◌∙◌, ap}
use Rattle.reg_world.specs.Witnesses.{is_kept, ids_of, merge}
use Rattle.reg_world.proofs.code.Reading.{all_ids, ids_read}
use Rattle.reg_world.proofs.witnesses.witness_of.Goals as goal

pub returns : goal.returns
returns g c =
    let order = c.args.order.now in
    let kept = is_kept c.args.callers.now in
    let reads = c.in_ok-reads.reads.items in
    let lost = c.in_ok-lost.lost.items in
    let ids = c.push_merged.new.ids.items in
    let first : ids ≡ ids_of (merge kept 0 reads order) =
    c.in_ok-push_merged.ensures ∙ (ap (λ l. l ++ ids_of (merge kept 0 c.deref.result.now order)) c.new-ids.ensures.items ∙ ap (λ l. ids_of (merge kept 0 l order)) c.deref.ensures.value) in
    let rest : c.push_ids.new.ids.items ≡ ids ++ ids_read lost =
    c.in_ok-push_ids.ensures ∙ ap (λ l. ids ++ ids_read l) c.deref-2.ensures.value in
    record {
      sorted = reads;
      lost = lost;
      reads_sorted = c.in_ok-reads.ensures;
      lost_sorted = c.in_ok-lost.ensures;
      merged = all_ids kept reads lost order ids c.push_ids.new.ids.items first rest;
    }
