use Rattle.std.proofs.Common.{refl}
use Rattle.reg_checkers.proofs.Noting.{read_at}
use Rattle.reg_judge.proofs.Trying.{answers_more}
use Rattle.reg_judge.proofs.possible.answers_of.Goals as goal

pub loop-value-preserved : goal.loop-value-preserved
loop-value-preserved g c = answers_more c.args.values.now c.loop-value.answers.items _ c.loop-value.value-index _ (read_at c.args.values.now c.loop-value.value-index _ _ refl c.loop-value-test.true) c.in_ok-push-3.ensures.items c.loop-value.invariant
