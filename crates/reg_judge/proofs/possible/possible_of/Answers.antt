use Rattle.std.proofs.Common.{refl}
use Rattle.reg_checkers.proofs.Noting.{read_at}
use Rattle.reg_judge.proofs.Trying.{possible_all, possible_by}
use Rattle.reg_judge.proofs.possible.possible_of.Goals as goal

pub loop-answer-preserved : goal.loop-answer-preserved
loop-answer-preserved g c = possible_by 1 c.args.history.now.entries c.args.place c.args.candidates.now c.loop-answer.answer-index _ (read_at c.args.candidates.now c.loop-answer.answer-index _ _ refl c.loop-answer-test.true) c.loop-answer.possible.items _ c.in_ok-is_possible.is_possible c.in_ok-is_possible.ensures c.in_ok-add_if.ensures c.loop-answer.invariant

pub returns : goal.returns
returns g c = possible_all 1 c.args.history.now.entries c.args.place c.args.candidates.now c.loop-answer.possible.items c.loop-answer.answer-index c.loop-answer-test.false c.loop-answer.invariant
