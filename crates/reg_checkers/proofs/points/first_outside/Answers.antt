use Rattle.std.proofs.Common.{ℕ, None, IsTrue, false, rules}
use Rattle.reg_base.specs.declared.memory.Op.TheVariants.{Read}
use Rattle.reg_checkers.specs.declared.entries.Point.{Point}
use Rattle.reg_checkers.specs.declared.facts.Fact.{Fact}
use Rattle.reg_checkers.specs.Facts.{IsOutsideFact}
use Rattle.reg_checkers.proofs.PointFacts.{none_more, not_outside_at, none_outside}
use Rattle.reg_checkers.proofs.points.first_outside.Goals as goal

no_truth : IsTrue false → ⊥
no_truth h = search rules

pub loop-k-preserved : goal.loop-k-preserved
loop-k-preserved c =
    let d : Point = record { id = record { process = 0; number = 0 }; at = 0 } in
    let e : Fact = record { op = Read 0; called = 0; answered = None; stands = false } in
    none_more (λ (k : ℕ). IsOutsideFact c.args.points.now c.args.facts.now k) c.loop-k.k c.loop-k.invariant
    (not_outside_at c.args.points.now c.args.facts.now c.loop-k.k d e c.loop-k-test.true c.requires (λ b. no_truth (c.if-is_beside.ensures.1 b)))

pub returns : goal.returns
returns c = none_outside c.args.points.now c.args.facts.now c.loop-k.k c.loop-k-test.false c.loop-k.invariant
