use Rattle.std.proofs.Common.{◌≤◌, map, refl, sym, subst}
use Rattle.reg_verify.specs.Laying.{BlamesOrder}
use Rattle.reg_verify.specs.Logs.{AreLogs}
use Rattle.reg_verify.specs.declared.faults.VerifyFault.{VerifyFault}
use Rattle.reg_verify.proofs.Merged.{stuck_beyond}
use Rattle.reg_verify.proofs.merging.order_steps.Goals as goal

pub returns-in-Some-clause-why : goal.returns-in-Some-clause-why
returns-in-Some-clause-why g c =
    let split : AreLogs c.args.shape.processes c.args.steps.now (map (λ v. v.items) c.in_ok-logs.logs.items) = rw c.processes.ensures.value at c.in_ok-logs.ensures in
    let e = c.in-Some.ensures in
    let beyond : c.args.shape.processes ≤ e.0.process = rw c.processes-2.ensures.value at e.2 in
    subst (λ (v : VerifyFault). BlamesOrder g.F.FrontEnd.start c.args.shape c.args.steps.now v) (sym c.stuck_at.ensures)
    (c.in-Some.place, refl, stuck_beyond g.F.FrontEnd.start c.args.shape c.args.steps.now (map (λ v. v.items) c.in_ok-logs.logs.items) c.in-Some.place e.0 split e.1 beyond)
