use Rattle.std.proofs.Common.{◌≡◌, ◌<◌, ℕ, length, get_or, ap, arith}
use Rattle.reg_workload.specs.Listed.{takes_at}
use Rattle.reg_workload.specs.Seeded.{take_choices}
use Rattle.reg_workload.proofs.Listing.{none_yet, takes_more, all_count}
use Rattle.reg_workload.proofs.Placing.{calls_are, ticks_are, takes_are, few_ones, few_taken}
use Rattle.reg_workload.proofs.choices.Chances.count.Goals as goal

pub loop-from-init : goal.loop-from-init
loop-from-init g c =
    let start = g.F.FrontEnd.start in
    let s = c.args.player.now in
    let z = none_yet start s in
    let a = few_ones start s c.args.self.now c.requires c.args.self.now.calls c.requires.few_calls in
    let b = few_ones start s c.args.self.now c.requires c.args.self.now.ticks c.requires.few_ticks in
    record { total = omega (arith, z); few = omega (arith, a, b) }

pub overflow_add-total-in-loop-from : goal.overflow_add-total-in-loop-from
overflow_add-total-in-loop-from g c =
    let n = c.loop-from.from in
    let within : n < c.args.player.now.made.processes = let t = c.loop-from-test.true in let e = c.processes-from-end.ensures.value in omega (arith, t, e) in
    let most = few_taken g.F.FrontEnd.start c.args.player.now c.args.self.now c.requires n _ within (ap (λ (k : ℕ). get_or c.args.self.now.takes k 0) c.from.ensures) in
    let f = c.loop-from.invariant.few in
    let t = c.loop-from-test.true in
    let m = c.processes-from-end.ensures.few in
    omega (arith, most, f, t, m)

pub loop-from-preserved : goal.loop-from-preserved
loop-from-preserved g c =
    let start = g.F.FrontEnd.start in
    let s = c.args.player.now in
    let n = c.loop-from.from in
    let row = get_or c.args.self.now.takes c.from.result 0 in
    let within : n < s.made.processes = let t = c.loop-from-test.true in let e = c.processes-from-end.ensures.value in omega (arith, t, e) in
    let is : row ≡ takes_at c.args.self.now n = ap (λ (k : ℕ). get_or c.args.self.now.takes k 0) c.from.ensures in
    let more = takes_more start s n in
    let here = takes_are start s c.args.self.now c.requires n row within is in
    let most = few_taken start s c.args.self.now c.requires n row within is in
    let t = c.loop-from.invariant.total in
    let f = c.loop-from.invariant.few in
    record { total = omega (arith, more, here, t); few = omega (arith, most, f) }

pub returns : goal.returns
returns g c =
    let start = g.F.FrontEnd.start in
    let s = c.args.player.now in
    let end : c.loop-from.from ≡ s.made.processes = let t = c.loop-from-test.false in let v = c.processes-from-end.ensures.value in let w = c.loop-from.auto.from-end in omega (arith, t, v, w) in
    let t = c.loop-from.invariant.total in
    let takes = ap (λ (k : ℕ). length (take_choices start s k)) end in
    let calls = calls_are start s c.args.self.now c.requires in
    let ticks = ticks_are start s c.args.self.now c.requires in
    let all = all_count start s in
    omega (arith, t, takes, calls, ticks, all)
