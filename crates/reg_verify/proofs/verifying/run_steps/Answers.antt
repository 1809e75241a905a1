use Rattle.std.proofs.Common.{◌≡◌, ◌∙◌, map, ap}
use Rattle.std.proofs.lemmas.Result.{IfOk-weaker, MatchResult-weaker}
use Rattle.reg_records.specs.Records.{IsFaithful}
use Rattle.reg_verify.specs.Logs.{AreLogs, order_of}
use Rattle.reg_verify.proofs.Logged.{blames}
use Rattle.reg_verify.proofs.verifying.run_steps.Goals as goal

pub returns-clause-ran : goal.returns-clause-ran
returns-clause-ran g c =
    let start = g.F.FrontEnd.start in
    let steps = c.args.steps.items in
    let logs = map (λ v. v.items) c.in_ok-order.logs.items in
    let split : AreLogs c.args.shape.processes steps logs = rw (c.processes.ensures.value, c.deref.ensures.value) at c.in_ok-order.ensures.logs in
    let order : c.deref-2.result.now ≡ order_of steps = c.deref-2.ensures.value ∙ c.in_ok-order.ensures.order ∙ ap order_of c.deref.ensures.value in
    let ran = rw (order, c.deref-3.ensures.value) at c.run_logs.ensures.ran in
    IfOk-weaker c.run_logs.result (λ w. IsFaithful start c.args.shape (order_of steps) logs w) _ (λ w faithful. record { logs = logs; split = split; faithful = faithful }) ran

pub returns-clause-why : goal.returns-clause-why
returns-clause-why g c =
    let steps = c.args.steps.items in
    let logs = map (λ v. v.items) c.in_ok-order.logs.items in
    let split : AreLogs c.args.shape.processes steps logs = rw (c.processes.ensures.value, c.deref.ensures.value) at c.in_ok-order.ensures.logs in
    let order : c.deref-2.result.now ≡ order_of steps = c.deref-2.ensures.value ∙ c.in_ok-order.ensures.order ∙ ap order_of c.deref.ensures.value in
    let why = rw c.deref-3.ensures.value at c.run_logs.ensures.why in
    MatchResult-weaker c.run_logs.result why (λ w t. t) (λ f blamed. blames g.F.FrontEnd.start c.args.shape steps c.deref-2.result.now logs f split order blamed)
