use Rattle.std.proofs.Common.{ℕ, arith}
use Rattle.reg_checkers.specs.declared.entries.Point.{Point}
use Rattle.reg_checkers.specs.Checks.{IsFalling}
use Rattle.reg_checkers.proofs.PointFacts.{none_more, not_falling_at, none_falling}
use Rattle.reg_checkers.proofs.points.first_falling.Goals as goal

pub loop-k-preserved : goal.loop-k-preserved
loop-k-preserved c =
    let d : Point = record { id = record { process = 0; number = 0 }; at = 0 } in
    none_more (λ (k : ℕ). IsFalling c.args.points.now k) c.loop-k.k c.loop-k.invariant
    (not_falling_at c.args.points.now c.loop-k.k d c.loop-k-test.true c.loop-k.auto.k c.if-points-k.false)

pub returns : goal.returns
returns c = none_falling c.args.points.now c.loop-k.k (omega (arith, c.loop-k-test.false)) c.loop-k.invariant
