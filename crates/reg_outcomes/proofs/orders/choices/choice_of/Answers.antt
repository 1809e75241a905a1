use Rattle.std.proofs.Common.{◌≡◌, inr, refl, arith}
use Rattle.std.specs.Int.{bit_at}
use Rattle.std.proofs.lemmas.Nat.Bits.{bit_at_ones}
use Rattle.reg_outcomes.proofs.orders.choices.choice_of.Goals as goal

pub returns-in-Some : goal.returns-in-Some
returns-in-Some c =
    let here : bit_at 18446744073709551615 c.args.process ≡ 1 = bit_at_ones 64 c.args.process (omega arith) in
    record { process = refl; op = refl; here = here; more = omega arith; top = omega arith; others = inr (c.in-Some.given, c.in-Some.is, c.leaves_all.ensures c.if-leaves_all.true) }
