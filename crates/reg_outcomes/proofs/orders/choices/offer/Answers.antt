use Rattle.std.proofs.Common.{IsTrue, subst}
use Rattle.reg_checkers.proofs.Placing.{no_truth}
use Rattle.reg_outcomes.specs.Layers.{stage_of}
use Rattle.reg_outcomes.proofs.Walking.{choice_is}
use Rattle.reg_outcomes.proofs.orders.choices.offer.Goals as goal

pub returns-in-Some : goal.returns-in-Some
returns-in-Some g c =
    let s = c.args.finder.now in
    choice_is s.kind s.shape.processes s.shape.registers s.entries c.requires.history c.args.process (stage_of c.args.stage.now) c.args.tried c.in-Some.fact c.choice_of.result c.requires.process
    (λ t. no_truth (subst IsTrue c.if-has.false (c.has.ensures.1 t)))
    c.in-Some.ensures.placed c.in-Some.ensures.fact c.choice_of.ensures
