use Rattle.std.proofs.Common.{MatchOption, sym, subst}
use Rattle.std.specs.Prelude.{slice_index}
use Rattle.reg_checkers.specs.History.{IsAnswered, IsFinished, WasCalled}
use Rattle.reg_checkers.specs.Progress.{op_of}
use Rattle.reg_checkers.proofs.Histories.{answered_was_called}
use Rattle.reg_outcomes.proofs.orders.finder.Finder.next_answer.Goals as goal

pub returns-in-Some : goal.returns-in-Some
returns-in-Some g c =
    let h = c.args.self.now.entries in
    subst (λ m. MatchOption c.in-Some.fact.answered (¬ IsFinished h (op_of c.args.process m)) (λ r. IsAnswered h (op_of c.args.process m) r.at r.answer)) c.next_number-number.ensures c.in-Some.ensures.value.answered

pub returns-in-None : goal.returns-in-None
returns-in-None g c =
    let s = c.args.self.now in
    let id = op_of c.args.process (slice_index c.args.next.now c.args.process) in
    λ fin. c.in-None.ensures.value (subst (λ m. WasCalled s.entries (op_of c.args.process m)) (sym c.next_number-number.ensures) (answered_was_called s.shape.processes s.shape.registers s.entries c.in-None.ensures.in_place id fin.0 fin.1 fin.2))
