use Rattle.std.proofs.Common.{◌≡◌, ℕ, ◌+◌, ◌%◌, ◌^◌, count_ones, ap, ◌∙◌, arith}
use Rattle.std.specs.Int.{bit_at}
use Rattle.std.proofs.lemmas.Nat.Bits.{shr_and_one, bit_at-lt}
use Rattle.reg_workload.proofs.Bits.{one_more, none_below, all_below, counted_down, is_here}
use Rattle.reg_workload.proofs.choices.nth_bit.Goals as goal

pub loop-place-init : goal.loop-place-init
loop-place-init c = let z = none_below c.args.bits in omega (arith, z)

pub returns-then-left-here : goal.returns-then-left-here
returns-then-left-here c =
    let n = c.loop-place.place in
    let r = is_here c.args.count (count_ones (c.args.bits % 2 ^ n)) c.loop-place.left _ (bit_at c.args.bits n) c.loop-place.invariant (shr_and_one c.args.bits n) (bit_at-lt c.args.bits n) c.if-left-here.true in
    record { set = r.0; count = r.1 }

pub loop-place-preserved : goal.loop-place-preserved
loop-place-preserved c =
    let n = c.loop-place.place in
    counted_down c.args.count (count_ones (c.args.bits % 2 ^ n)) (count_ones (c.args.bits % 2 ^ (n + 1))) c.loop-place.left _ (bit_at c.args.bits n) c.loop-place.invariant (one_more c.args.bits n) (shr_and_one c.args.bits n) c.if-left-here.false

pub unreachable-requires : goal.unreachable-requires
unreachable-requires c =
    let end : c.loop-place.place ≡ 64 = let t = c.loop-place-test.false in let a = c.loop-place.auto.place-end in omega (arith, t, a) in
    let all = ap (λ (k : ℕ). count_ones (c.args.bits % 2 ^ k)) end ∙ all_below c.args.bits 64 c.ranges.bits.fits in
    let i = c.loop-place.invariant in
    let l = c.if-all-count.false in
    omega (arith, all, i, l)
