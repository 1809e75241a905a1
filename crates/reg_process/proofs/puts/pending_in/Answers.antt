use Rattle.std.proofs.Common.{◌≡◌, ◌+◌, suc, length, drop, ap, arith, add-one}
use Rattle.reg_links.specs.Link.{Unacknowledged}
use Rattle.reg_process.specs.Queued.{outs_of, pending_in}
use Rattle.reg_process.proofs.Outs.{length-outs, out_at}
use Rattle.reg_process.proofs.Pending.{pending_drop, pending_end}
use Rattle.reg_process.proofs.puts.pending_in.Goals as goal

pub overflow_cast-r-end : goal.overflow_cast-r-end
overflow_cast-r-end g c = let n = length-outs c.args.me c.args.outboxes.now in let e = c.processes-r-end.ensures in let h = c.requires in omega (arith, n, e, h)

pub loop-r-preserved : goal.loop-r-preserved
loop-r-preserved g c =
    let outs = outs_of c.args.me c.args.outboxes.now in
    let n = length-outs c.args.me c.args.outboxes.now in
    let e = c.processes-r-end.ensures in
    let t = c.loop-r-test.true in
    let i = c.loop-r.invariant in
    let at = ap (λ (o : Unacknowledged). length o.pending) (out_at c.args.me c.args.outboxes.now c.loop-r.r (omega (arith, e, t))) in
    let d = pending_drop outs c.loop-r.r (omega (arith, n, e, t)) in
    let value = c.pending_to-total.ensures.value in
    let top = c.pending_to-total.ensures.in_range in
    let more : pending_in (drop (c.loop-r.r + 1) outs) ≡ pending_in (drop (suc c.loop-r.r) outs) = ap (λ k. pending_in (drop k outs)) (add-one c.loop-r.r) in
    let left = i.left in
    let bound = i.bound in
    record {
      left = omega (arith, left, d, at, value, more);
      bound = omega (arith, bound, top);
    }

pub returns : goal.returns
returns g c =
    let outs = outs_of c.args.me c.args.outboxes.now in
    let n = length-outs c.args.me c.args.outboxes.now in
    let e = c.processes-r-end.ensures in
    let t = c.loop-r-test.false in
    let left = c.loop-r.invariant.left in
    let z = pending_end outs c.loop-r.r (omega (arith, n, e, t)) in
    omega (arith, left, z)
