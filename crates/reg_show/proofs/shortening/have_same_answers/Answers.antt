use Rattle.std.proofs.Common.{ℕ, ◌≡◌, ◌∙◌, arith, below_more, refl, sym}
use Rattle.std.proofs.lemmas.Bool.{false≢true}
use Rattle.reg_show.specs.Shorts.{finished_of}
use Rattle.reg_show.proofs.shortening.have_same_answers.Goals as goal

pub returns-then-not-same : goal.returns-then-not-same
returns-then-not-same g c = (λ e. absurd (false≢true e), λ all. absurd (false≢true (sym c.if-not-same.true ∙ c.in_ok-same.ensures.1 (all c.loop-process.process c.loop-process-test.true))))

pub loop-process-preserved : goal.loop-process-preserved
loop-process-preserved g c = below_more (λ (p : ℕ). finished_of p c.args.entries.now ≡ finished_of p c.args.others.now) c.loop-process.process c.loop-process.invariant (c.in_ok-same.ensures.0 c.if-not-same.false)

pub returns : goal.returns
returns g c = (λ _. λ p lt. c.loop-process.invariant p (omega arith), λ _. refl)
