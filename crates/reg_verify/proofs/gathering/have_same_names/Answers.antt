use Rattle.std.proofs.Common.{◌≡◌, length, refl, arith}
use Rattle.reg_verify.proofs.Merged.{same_lists}
use Rattle.reg_verify.proofs.gathering.have_same_names.Goals as goal

pub returns : goal.returns
returns g c =
    let long : length c.args.a.now ≡ length c.args.b.now = omega (arith, c.count.ensures.value, c.count-2.ensures.value, c.if-count.false) in
    (λ _. same_lists c.args.a.now c.args.b.now (λ k lt. c.loop-register.invariant k (omega (arith, lt, c.loop-register-test.false, c.count-register-end.ensures.value))) long, λ _. refl)
