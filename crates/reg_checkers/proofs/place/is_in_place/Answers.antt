use Rattle.reg_checkers.specs.History.{IsInPlace}
use Rattle.reg_checkers.proofs.Placing.{refuse}
use Rattle.reg_checkers.proofs.Keeping.{progress_at, answer_past}
use Rattle.reg_checkers.proofs.place.is_in_place.Goals as goal

pub may_call-requires-clause-progress : goal.may_call-requires-clause-progress
may_call-requires-clause-progress c =
    progress_at c.args.shape.processes c.args.shape.registers c.args.entries.now c.args.progress.now c.from-process.result c.in-Called.id.process _ c.requires c.if-process-progress.false c.from-process.ensures

pub returns-then-process-progress-2 : goal.returns-then-process-progress-2
returns-then-process-progress-2 c =
    refuse (IsInPlace c.args.shape.processes c.args.shape.registers c.args.entries.now c.args.entry)
    (answer_past c.args.shape.processes c.args.shape.registers c.args.entries.now c.args.progress.now c.args.entry c.in-Answered.at c.in-Answered.id c.in-Answered.answer c.from-process-in-Answered.result
    c.requires c.in-Answered.is c.if-process-progress-2.true c.from-process-in-Answered.ensures)

pub may_answer-requires-clause-progress : goal.may_answer-requires-clause-progress
may_answer-requires-clause-progress c =
    progress_at c.args.shape.processes c.args.shape.registers c.args.entries.now c.args.progress.now c.from-process-in-Answered.result c.in-Answered.id.process _ c.requires c.if-process-progress-2.false c.from-process-in-Answered.ensures
