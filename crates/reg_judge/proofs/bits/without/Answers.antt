use Rattle.std.proofs.Common.{◌≡◌, ◌^◌, ◌-◌, ◌*◌, ◌%◌, inl, inr, w64, arith}
use Rattle.std.specs.Int.{bit_at}
use Rattle.std.proofs.lemmas.Bool.{cases_lt}
use Rattle.std.proofs.lemmas.Nat.Bits.{bit_at_above, bit_at_and, bit_at_clear_same, bit_at_clear_other}
use Rattle.reg_judge.proofs.bits.without.Goals as goal

pub returns-clause-here : goal.returns-clause-here
returns-clause-here c = bit_at_clear_same w64 c.args.set c.args.process (omega arith)

pub returns-clause-others : goal.returns-clause-others
returns-clause-others c = λ q apart. elim (cases_lt q 64) [
  | inl lt ↦ bit_at_clear_other w64 c.args.set c.args.process (omega arith) q lt apart
  | inr ge ↦
      let none : bit_at c.args.set q ≡ 0 = bit_at_above c.args.set 64 q (omega arith) ge in
      let both = bit_at_and c.args.set (18446744073709551615 - 1 * 2 ^ c.args.process % 18446744073709551616) q in
      omega (arith, both, none)
]
