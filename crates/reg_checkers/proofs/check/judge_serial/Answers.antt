use Rattle.reg_checkers.proofs.Bridges.{registers_fit}
use Rattle.reg_checkers.proofs.Verdicts.{serial}
use Rattle.reg_checkers.proofs.check.judge_serial.Goals as goal

pub check_answers-requires : goal.check_answers-requires
check_answers-requires g c =
    rw c.deref.ensures.value (registers_fit c.args.shape.processes c.args.shape.registers c.args.entries.now c.requires c.args.ids.now c.in_ok-facts.facts.items c.in_ok-facts.ensures.0.facts_of)

pub returns : goal.returns
returns g c =
    let own = rw c.in-Ok-false.field-0-test at c.in-Ok-false.ensures in
    serial c.args.shape.processes c.args.shape.registers c.args.entries.now c.requires c.args.ids.now c.in_ok-facts.facts.items c.in_ok-facts.ensures.0 c.in_ok-facts.ensures.1 own c.check_answers.result
    (rw c.deref.ensures.value at c.check_answers.ensures.right) (rw c.deref.ensures.value at c.check_answers.ensures.wrong)
