use Rattle.std.proofs.Common.{◌≡◌, ◌<◌, ℕ, get_or, ap, arith}
use Rattle.reg_workload.specs.Listed.{takes_at}
use Rattle.reg_workload.proofs.Listing.{none_yet, takes_more, take_found}
use Rattle.reg_workload.proofs.Placing.{takes_are, take_stands, may_be_taken}
use Rattle.reg_workload.proofs.choices.Chances.nth_take.Goals as goal

pub loop-from-init : goal.loop-from-init
loop-from-init g c = let z = none_yet g.F.FrontEnd.start c.args.player.now in omega (arith, z)

pub next_take-requires-clause-to : goal.next_take-requires-clause-to
next_take-requires-clause-to g c =
    let start = g.F.FrontEnd.start in
    let s = c.args.player.now in
    let n = c.loop-from.from in
    let row = get_or c.args.self.now.takes c.from.result 0 in
    let within : n < s.made.processes = let t = c.loop-from-test.true in let e = c.processes-from-end.ensures.value in omega (arith, t, e) in
    let is : row ≡ takes_at c.args.self.now n = ap (λ (k : ℕ). get_or c.args.self.now.takes k 0) c.from.ensures in
    (may_be_taken start s c.args.self.now c.requires.listed n c.in-Ok.to row within is c.in-Ok.ensures.set).0

pub next_take-requires-clause-some : goal.next_take-requires-clause-some
next_take-requires-clause-some g c =
    let start = g.F.FrontEnd.start in
    let s = c.args.player.now in
    let n = c.loop-from.from in
    let row = get_or c.args.self.now.takes c.from.result 0 in
    let within : n < s.made.processes = let t = c.loop-from-test.true in let e = c.processes-from-end.ensures.value in omega (arith, t, e) in
    let is : row ≡ takes_at c.args.self.now n = ap (λ (k : ℕ). get_or c.args.self.now.takes k 0) c.from.ensures in
    (may_be_taken start s c.args.self.now c.requires.listed n c.in-Ok.to row within is c.in-Ok.ensures.set).1

pub returns-in-Ok : goal.returns-in-Ok
returns-in-Ok g c =
    let start = g.F.FrontEnd.start in
    let s = c.args.player.now in
    let n = c.loop-from.from in
    let row = get_or c.args.self.now.takes c.from.result 0 in
    let within : n < s.made.processes = let t = c.loop-from-test.true in let e = c.processes-from-end.ensures.value in omega (arith, t, e) in
    let is : row ≡ takes_at c.args.self.now n = ap (λ (k : ℕ). get_or c.args.self.now.takes k 0) c.from.ensures in
    take_found start s n s.made.processes c.loop-from.left c.args.place c.next_take.result within c.loop-from.invariant
    (take_stands start s c.args.self.now c.requires.listed n c.in-Ok.to c.loop-from.left row c.next_take.result within is c.in-Ok.ensures.set c.in-Ok.ensures.count c.next_take.ensures)

pub loop-from-preserved : goal.loop-from-preserved
loop-from-preserved g c =
    let start = g.F.FrontEnd.start in
    let s = c.args.player.now in
    let n = c.loop-from.from in
    let row = get_or c.args.self.now.takes c.from.result 0 in
    let within : n < s.made.processes = let t = c.loop-from-test.true in let e = c.processes-from-end.ensures.value in omega (arith, t, e) in
    let is : row ≡ takes_at c.args.self.now n = ap (λ (k : ℕ). get_or c.args.self.now.takes k 0) c.from.ensures in
    let more = takes_more start s n in
    let here = takes_are start s c.args.self.now c.requires.listed n row within is in
    let left = c.in-Err.ensures.count in
    let i = c.loop-from.invariant in
    omega (arith, more, here, left, i)
