use Rattle.std.proofs.Common.{◌≡◌, ◌<◌, ◌≤◌, ◌+◌, length, get_or, take, arith, length-take-le, length-set, refl, rules}
use Rattle.std.proofs.Common.{◌^◌}
use Rattle.std.proofs.lemmas.Grind.{common_steps}
use Rattle.std.proofs.lemmas.List.Sums.{count_by-le-length}
use Rattle.reg_records.specs.Records.{mentions}
use Rattle.reg_records.proofs.Counting.{tallied-bump}
use Rattle.reg_records.proofs.tallies.bump.Goals as goal

pub overflow_add-index_mut : goal.overflow_add-index_mut
overflow_add-index_mut g c =
    let is : c.index_mut.result.now ≡ get_or c.args.counts.now.items c.from-process.result 0 = grind (arith, common_steps) in
    let inside : c.from-process.result < length c.args.counts.now.items = grind (arith, common_steps) in
    let is2 : get_or c.args.counts.now.items c.from-process.result 0 ≡ mentions c.from-process.result (take c.args.place c.args.order.now) = c.requires.tallied c.from-process.result inside in
    let most : mentions c.from-process.result (take c.args.place c.args.order.now) ≤ length (take c.args.place c.args.order.now) = count_by-le-length _ _ in
    let len : length (take c.args.place c.args.order.now) ≡ c.args.place = let h : c.args.place ≤ length c.args.order.now = omega (arith, c.requires.within) in rw length-take-le refl in
    let below : c.index_mut.result.now + 1 < 2 ^ 64 = omega (arith, is, is2, most, len, c.requires.fits) in
    search rules

pub returns-then-process-len-clause-tallied : goal.returns-then-process-len-clause-tallied
returns-then-process-len-clause-tallied g c p h =
    let is : c.index_mut.result.now ≡ get_or c.args.counts.now.items c.from-process.result 0 = grind (arith, common_steps) in
    tallied-bump c.args.counts.now.items c.args.order.now c.args.place c.from-process.result c.index_mut.result.now c.requires.within (search rules) (grind (arith, common_steps)) is c.requires.tallied p (rw length-set at h)
