use Rattle.std.proofs.Common.{◌≡◌, IsSome, refl, subst, sym, ℕ}
use Rattle.std.specs.Vec.{with_item}
use Rattle.reg_outcomes.specs.declared.orders.before.Before.{Before}
use Rattle.reg_outcomes.specs.Forced.{count_at}
use Rattle.reg_outcomes.proofs.Known.{count_is_one_of, count_replaced, row_of_count}
use Rattle.reg_outcomes.proofs.orders.before.Before.set.Goals as goal

pub returns : goal.returns
returns g c =
    let old = c.args.self.now in
    let id = c.args.id in
    let row = c.index_mut.result.now in
    let rows = old.counts.items in
    let at = c.place_of-place.result in
    let own : c.from.result ≡ id.process = c.from.ensures in
    let some : IsSome (count_at at c.from.result rows) = subst (λ (q : ℕ). IsSome (count_at at q rows)) (sym own) (subst (λ (n : ℕ). IsSome (count_at n id.process rows)) (sym c.place_of-place.ensures) c.requires.there) in
    let there = row_of_count rows c.from.result at row c.index_mut.ensures.value some in
    let new : Before g.row.A.Denot = record { processes = old.processes; counts = with_item old.counts c.from.result (with_item row at c.args.count); noted = old.noted; copied = old.copied } in
    count_is_one_of old new id c.args.process c.args.count c.from.result at refl c.requires.process own c.place_of-place.ensures (count_replaced rows c.from.result row (with_item row at c.args.count) at c.args.count there.0 refl there.1)
