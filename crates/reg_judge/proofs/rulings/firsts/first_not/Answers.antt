use Rattle.std.proofs.Common.{refl}
use Rattle.reg_checkers.proofs.Noting.{read_at}
use Rattle.reg_judge.proofs.Earliest.{first_more, first_none, found_all}
use Rattle.reg_judge.proofs.rulings.firsts.first_not.Goals as goal

pub loop-ruling-init : goal.loop-ruling-init
loop-ruling-init c = first_none c.args.rulings.now

pub loop-ruling-preserved : goal.loop-ruling-preserved
loop-ruling-preserved c = first_more c.loop-ruling.ruling-index c.args.rulings.now _ c.loop-ruling.found c.earlier-found.result (read_at c.args.rulings.now c.loop-ruling.ruling-index _ _ refl c.loop-ruling-test.true) c.earlier-found.ensures c.loop-ruling.invariant

pub returns : goal.returns
returns c = found_all c.loop-ruling.ruling-index c.args.rulings.now c.loop-ruling.found c.loop-ruling-test.false c.loop-ruling.invariant
