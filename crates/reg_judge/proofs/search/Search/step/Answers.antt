use Rattle.std.proofs.Common.{Some, length, arith}
use Rattle.reg_checkers.specs.declared.entries.Entry.TheVariants.{Called, Answered}
use Rattle.reg_checkers.proofs.Noting.{read_at}
use Rattle.reg_checkers.proofs.Places.{within}
use Rattle.reg_judge.proofs.Stepping.{answerer_fits, caller_fits, register_fits, step_answer, step_call, wait_answer}
use Rattle.reg_judge.proofs.Stepping.{wait_call}
use Rattle.reg_judge.proofs.search.Search.step.Goals as goal

pub call-requires-clause-process : goal.call-requires-clause-process
call-requires-clause-process g c = caller_fits (length c.args.self.now.running.items) (length c.args.self.now.layers.items) c.args.entries.now c.args.rows.now c.args.needs.now c.requires.known c.args.place c.in-Called.at c.in-Called.id c.in-Called.op (read_at c.args.entries.now c.args.place _ (Called c.in-Called.at c.in-Called.id c.in-Called.op) c.in-Called.is c.requires.place)

pub call-requires-clause-register : goal.call-requires-clause-register
call-requires-clause-register g c = register_fits (length c.args.self.now.running.items) (length c.args.self.now.layers.items) c.args.entries.now c.args.rows.now c.args.needs.now c.requires.known c.in-Called.id

pub answer-requires-clause-process : goal.answer-requires-clause-process
answer-requires-clause-process g c = answerer_fits (length c.args.self.now.running.items) (length c.args.self.now.layers.items) c.args.entries.now c.args.rows.now c.args.needs.now c.requires.known c.args.place c.in-Answered.at c.in-Answered.id c.in-Answered.answer (read_at c.args.entries.now c.args.place _ (Answered c.in-Answered.at c.in-Answered.id c.in-Answered.answer) c.in-Answered.is c.requires.place)

pub answer-requires-clause-narrow : goal.answer-requires-clause-narrow
answer-requires-clause-narrow g c = λ p call at.
    let is = (c.requires.waiting p call at).process in
    let lt = within c.args.self.now.running.items p (Some call) at in
    let few = c.requires.known.few in
    omega (arith, is, lt, few)

pub answer-requires-clause-registers : goal.answer-requires-clause-registers
answer-requires-clause-registers g c = λ p call at. register_fits (length c.args.self.now.running.items) (length c.args.self.now.layers.items) c.args.entries.now c.args.rows.now c.args.needs.now c.requires.known call.id call.act (c.requires.waiting p call at).is

pub returns-in_ok-call-in-Called-clause-step : goal.returns-in_ok-call-in-Called-clause-step
returns-in_ok-call-in-Called-clause-step g c =
    let here = read_at c.args.entries.now c.args.place _ (Called c.in-Called.at c.in-Called.id c.in-Called.op) c.in-Called.is c.requires.place in
    let inside = caller_fits (length c.args.self.now.running.items) (length c.args.self.now.layers.items) c.args.entries.now c.args.rows.now c.args.needs.now c.requires.known c.args.place c.in-Called.at c.in-Called.id c.in-Called.op here in
    step_call (length c.args.self.now.running.items) (length c.args.self.now.layers.items) c.args.entries.now c.args.rows.now c.args.needs.now c.requires.known c.args.place c.args.self.now.running.items c.requires.waiting c.in-Called.at c.in-Called.id c.in-Called.op here inside c.call.new.self.running.items c.args.self.now.layers.items c.call.new.self.layers.items c.in_ok-call-in-Called.ensures.running c.in_ok-call-in-Called.ensures.layers c.in_ok-call-in-Called.ensures.len

pub returns-in_ok-call-in-Called-clause-waiting : goal.returns-in_ok-call-in-Called-clause-waiting
returns-in_ok-call-in-Called-clause-waiting g c = λ on.
    let here = read_at c.args.entries.now c.args.place _ (Called c.in-Called.at c.in-Called.id c.in-Called.op) c.in-Called.is c.requires.place in
    let inside = caller_fits (length c.args.self.now.running.items) (length c.args.self.now.layers.items) c.args.entries.now c.args.rows.now c.args.needs.now c.requires.known c.args.place c.in-Called.at c.in-Called.id c.in-Called.op here in
    wait_call (length c.args.self.now.running.items) (length c.args.self.now.layers.items) c.args.entries.now c.args.rows.now c.args.needs.now c.requires.known c.args.place c.args.self.now.running.items c.requires.waiting c.in-Called.at c.in-Called.id c.in-Called.op here inside c.call.new.self.running.items c.in_ok-call-in-Called.ensures.running

pub returns-in_ok-stepped-in-Answered-clause-step : goal.returns-in_ok-stepped-in-Answered-clause-step
returns-in_ok-stepped-in-Answered-clause-step g c = step_answer (length c.args.self.now.running.items) (length c.args.self.now.layers.items) c.args.entries.now c.args.rows.now c.args.needs.now c.requires.known c.args.place c.args.self.now.running.items c.requires.waiting c.in-Answered.at c.in-Answered.id c.in-Answered.answer (read_at c.args.entries.now c.args.place _ (Answered c.in-Answered.at c.in-Answered.id c.in-Answered.answer) c.in-Answered.is c.requires.place) c.answer.new.self.running.items c.args.self.now.layers.items c.answer.new.self.layers.items c.in_ok-stepped-in-Answered.stepped c.in_ok-stepped-in-Answered.ensures.answered

pub returns-in_ok-stepped-in-Answered-clause-waiting : goal.returns-in_ok-stepped-in-Answered-clause-waiting
returns-in_ok-stepped-in-Answered-clause-waiting g c = wait_answer (length c.args.self.now.running.items) (length c.args.self.now.layers.items) c.args.entries.now c.args.rows.now c.args.needs.now c.requires.known c.args.place c.args.self.now.running.items c.requires.waiting c.in-Answered.at c.in-Answered.id c.in-Answered.answer (read_at c.args.entries.now c.args.place _ (Answered c.in-Answered.at c.in-Answered.id c.in-Answered.answer) c.in-Answered.is c.requires.place) c.answer.new.self.running.items c.args.self.now.layers.items c.answer.new.self.layers.items c.in_ok-stepped-in-Answered.stepped c.in_ok-stepped-in-Answered.ensures.answered
