use Rattle.std.proofs.Common.{arith, ◌≢◌, ◌<◌, ◌∙◌, sym, length}
use Rattle.reg_workload.proofs.Fairness.{call_fair}
use Rattle.reg_workload.proofs.Rounding.{call_not, call_full, call_made}
use Rattle.reg_workload.proofs.Rounds.{makes}
use Rattle.reg_workload.proofs.fair.call_one.Goals as goal

pub returns-clause-part : goal.returns-clause-part
returns-clause-part g c =
    let start = g.F.FrontEnd.start in
    let old = c.args.player.now in
    let new = c.call.new.self in
    let e = c.in_ok-call.ensures in
    let fair = call_fair start g.met.F.FrontEnd.lawful old new c.args.process e.accepts.0 c.requires.fair e.accepts.1 e.cursors in
    let left : length old.made.accepted ≢ c.args.budget = let a = c.events.ensures in let b = c.if-events-budget.false in λ q. b (a ∙ q) in
    makes start c.args.budget old new _ c.requires.few left fair c.call.ensures.same c.call.ensures.processes c.call.ensures.registers e.going e.more

pub returns-then-not-may_call-clause-value : goal.returns-then-not-may_call-clause-value
returns-then-not-may_call-clause-value g c = sym (call_not g.F.FrontEnd.start c.args.budget c.args.player.now c.args.process (sym c.may_call.ensures.value ∙ c.if-not-may_call.true))

pub returns-then-events-budget-clause-value : goal.returns-then-events-budget-clause-value
returns-then-events-budget-clause-value g c = sym (call_full g.F.FrontEnd.start c.args.budget c.args.player.now c.args.process (sym c.events.ensures ∙ c.if-events-budget.true))

pub returns-clause-value : goal.returns-clause-value
returns-clause-value g c =
    let left : length c.args.player.now.made.accepted < c.args.budget = let a = c.events.ensures in let b = c.if-events-budget.false in let f = c.requires.few in omega (arith, a, b, f) in
    c.in_ok-call.ensures.value ∙ sym (call_made g.F.FrontEnd.start c.args.budget c.args.player.now c.args.process (sym c.may_call.ensures.value ∙ c.if-not-may_call.false) left)
