use Rattle.std.proofs.Common.{arith, refl}
use Rattle.reg_checkers.proofs.Noting.{read_at}
use Rattle.reg_judge.proofs.Telling.{told_all, told_more}
use Rattle.reg_judge.proofs.rulings.instead.possible_all.Goals as goal

pub loop-key-preserved : goal.loop-key-preserved
loop-key-preserved g c = told_more c.loop-key.key c.args.processes c.args.rows.now c.args.rulings.now c.loop-key.told.items c.push.new.self.items _ c.in_ok-possible_by.field-0 (read_at c.args.rulings.now c.loop-key.key _ _ refl c.loop-key-test.true) c.in_ok-possible_by.ensures c.in_ok-push.ensures.items c.loop-key.invariant

pub returns : goal.returns
returns g c = told_all c.loop-key.key c.args.processes c.args.rows.now c.args.rulings.now c.loop-key.told.items (let low = c.loop-key-test.false in let high = c.loop-key.auto.key-end in omega (arith, low, high)) c.loop-key.invariant
