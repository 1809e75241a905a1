use Rattle.std.proofs.Common.{◌≡◌, ◌+◌, suc, length, drop, refl, sym, ap, arith, add-one}
use Rattle.std.specs.Prelude.{nat_lt}
use Rattle.std.proofs.lemmas.Bool.{lt-ltb}
use Rattle.reg_links.specs.Link.{Unacknowledged}
use Rattle.reg_process.specs.Queued.{outs_of, pending_in}
use Rattle.reg_process.proofs.Outs.{length-outs, out_at}
use Rattle.reg_process.proofs.Pending.{pending_drop, pending_end}
use Rattle.reg_process.proofs.puts.is_pending_in.Goals as goal

pub overflow_cast-r-end : goal.overflow_cast-r-end
overflow_cast-r-end g c = let n = length-outs c.args.me c.args.outboxes.now in let e = c.processes-r-end.ensures in let h = c.requires in omega (arith, n, e, h)

pub loop-r-init : goal.loop-r-init
loop-r-init g c = refl

pub loop-r-preserved : goal.loop-r-preserved
loop-r-preserved g c =
    let outs = outs_of c.args.me c.args.outboxes.now in
    let n = length-outs c.args.me c.args.outboxes.now in
    let e = c.processes-r-end.ensures in
    let t = c.loop-r-test.true in
    let i = c.loop-r.invariant in
    let at = ap (λ (o : Unacknowledged). length o.pending) (out_at c.args.me c.args.outboxes.now c.loop-r.r (omega (arith, e, t))) in
    let d = pending_drop outs c.loop-r.r (omega (arith, n, e, t)) in
    let value = c.pending_to.ensures.value in
    let none = c.if-pending_to-gt0.false in
    let more : pending_in (drop (c.loop-r.r + 1) outs) ≡ pending_in (drop (suc c.loop-r.r) outs) = ap (λ k. pending_in (drop k outs)) (add-one c.loop-r.r) in
    omega (arith, i, d, at, value, none, more)

pub returns-then-pending_to-gt0 : goal.returns-then-pending_to-gt0
returns-then-pending_to-gt0 g c =
    let outs = outs_of c.args.me c.args.outboxes.now in
    let n = length-outs c.args.me c.args.outboxes.now in
    let e = c.processes-r-end.ensures in
    let t = c.loop-r-test.true in
    let i = c.loop-r.invariant in
    let at = ap (λ (o : Unacknowledged). length o.pending) (out_at c.args.me c.args.outboxes.now c.loop-r.r (omega (arith, e, t))) in
    let d = pending_drop outs c.loop-r.r (omega (arith, n, e, t)) in
    let value = c.pending_to.ensures.value in
    let some = c.if-pending_to-gt0.true in
    sym (lt-ltb 0 (pending_in outs) (omega (arith, i, d, at, value, some)))

pub returns : goal.returns
returns g c =
    let outs = outs_of c.args.me c.args.outboxes.now in
    let n = length-outs c.args.me c.args.outboxes.now in
    let e = c.processes-r-end.ensures in
    let t = c.loop-r-test.false in
    let i = c.loop-r.invariant in
    let z = pending_end outs c.loop-r.r (omega (arith, n, e, t)) in
    let none : pending_in outs ≡ 0 = omega (arith, i, z) in
    sym (ap (nat_lt 0) none)
