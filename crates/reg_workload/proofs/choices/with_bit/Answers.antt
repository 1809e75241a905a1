use Rattle.std.proofs.Common.{◌≡◌, ℕ, ◌*◌, ◌%◌, ◌^◌, ◌<◌, ◌∙◌, sym, ap, subst, arith, w64, bit_and, bit_or}
use Rattle.std.specs.Int.{bit_at, bit_not}
use Rattle.std.proofs.lemmas.Nat.{one_shl, or_lt, and_le_l, pow_below}
use Rattle.std.proofs.lemmas.Nat.Bits.{bit_at_set_same, bit_at_set_other, bit_at_clear_same, bit_at_clear_other}
use Rattle.reg_workload.specs.Listed.{bit_of}
use Rattle.reg_workload.proofs.choices.with_bit.Goals as goal

pub returns-then-is_set : goal.returns-then-is_set
returns-then-is_set c =
    let k = c.from.result in
    let e : k ≡ c.args.place = c.from.ensures in
    let within : k < 64 = let l = c.requires in omega (arith, e, l) in
    let result = bit_or c.args.bits (1 * 2 ^ k % 2 ^ 64) in
    record {
      few = λ n l few. or_lt n c.args.bits (1 * 2 ^ k % 2 ^ 64) few (subst (λ (j : ℕ). j < 2 ^ n) (sym (one_shl k 64 within)) (pow_below k n (omega (arith, e, l))));
      here = subst (λ (j : ℕ). bit_at result j ≡ 1) e (bit_at_set_same w64 c.args.bits k within) ∙ sym (ap bit_of c.if-is_set.true);
      others = λ i l ne. bit_at_set_other w64 c.args.bits k within i (λ q. ne (q ∙ e));
    }

pub returns-else-is_set : goal.returns-else-is_set
returns-else-is_set c =
    let k = c.from.result in
    let e : k ≡ c.args.place = c.from.ensures in
    let within : k < 64 = let l = c.requires in omega (arith, e, l) in
    let rest = bit_not w64 (1 * 2 ^ k % 2 ^ 64) in
    record {
      few = λ n l few. let less = and_le_l c.args.bits rest in omega (arith, less, few);
      here = subst (λ (j : ℕ). bit_at (bit_and c.args.bits rest) j ≡ 0) e (bit_at_clear_same w64 c.args.bits k within) ∙ sym (ap bit_of c.if-is_set.false);
      others = λ i l ne. bit_at_clear_other w64 c.args.bits k within i l (λ q. ne (q ∙ e));
    }
