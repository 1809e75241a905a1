use Rattle.std.proofs.Common.{◌+◌, ◌≤◌, ℕ, ap, sym, ◌∙◌, arith}
use Rattle.std.proofs.lemmas.Option.{slice_get-get_or}
use Rattle.reg_verify.proofs.Merged.{other_step, own_step, step_of}
use Rattle.reg_verify.proofs.laying.place_of.Goals as goal

pub loop-place-preserved-then-step-process : goal.loop-place-preserved-then-step-process
loop-place-preserved-then-step-process c = record {
  count = c.loop-place.invariant.count ∙ sym (other_step c.args.steps.now c.loop-place.place c.args.process _ (slice_get-get_or c.args.steps.now c.loop-place.place _ c.loop-place-test.true) c.if-step-process.true);
  below = c.loop-place.invariant.below;
}

pub returns-then-before-number : goal.returns-then-before-number
returns-then-before-number c =
    step_of c.args.steps.now c.args.process c.args.number c.loop-place.place _ (slice_get-get_or c.args.steps.now c.loop-place.place _ c.loop-place-test.true) c.if-step-process.false (sym c.loop-place.invariant.count ∙ c.if-before-number.true)

pub loop-place-preserved : goal.loop-place-preserved
loop-place-preserved c =
    let below : c.loop-place.before + 1 ≤ c.args.number = let b = c.loop-place.invariant.below in let off = c.if-before-number.false in omega (arith, b, off) in
    record {
      count = ap (λ (k : ℕ). k + 1) c.loop-place.invariant.count ∙ sym (own_step c.args.steps.now c.loop-place.place c.args.process _ (slice_get-get_or c.args.steps.now c.loop-place.place _ c.loop-place-test.true) c.if-step-process.false);
      below = below;
    }
