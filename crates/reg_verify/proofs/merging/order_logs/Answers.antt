use Rattle.std.proofs.Common.{List, ℕ, map, refl, sym, subst}
use Rattle.reg_verify.specs.Laying.{AllStand, BlamesOrder}
use Rattle.reg_verify.specs.declared.faults.VerifyFault.{VerifyFault}
use Rattle.reg_verify.proofs.Merged.{all_stand, has_number, orders, room_for, stuck_step}
use Rattle.reg_verify.proofs.merging.order_logs.Goals as goal

pub whole_order-requires-clause-few : goal.whole_order-requires-clause-few
whole_order-requires-clause-few g c = room_for g.F.FrontEnd.start c.args.shape c.args.steps.now (map (λ v. v.items) c.args.logs.now) c.requires.logs c.requires.few

pub laid_out-requires : goal.laid_out-requires
laid_out-requires g c =
    subst (λ (order : List ℕ). AllStand order (map (λ v. v.items) c.args.logs.now)) (sym c.deref.ensures.value)
    (all_stand g.F.FrontEnd.start c.args.shape c.in-Ok.order.items (map (λ v. v.items) c.args.logs.now) c.in-Ok.ensures.order.0 c.in-Ok.ensures.order.1)

pub stuck_step-requires-clause-one : goal.stuck_step-requires-clause-one
stuck_step-requires-clause-one g c =
    let f = rw c.in-Err-Stuck.field-0-is at c.in-Err-Stuck.ensures.fault in
    rw (c.in-Err-Stuck.process-is, c.in-Err-Stuck.number-is)
    (has_number c.args.shape.processes c.args.steps.now (map (λ v. v.items) c.args.logs.now) c.in-Err-Stuck.process c.in-Err-Stuck.number f.0.0 c.requires.logs f.0.1)

pub returns-in_ok-ordered-in-Ok-clause-orders : goal.returns-in_ok-ordered-in-Ok-clause-orders
returns-in_ok-ordered-in-Ok-clause-orders g c =
    orders g.F.FrontEnd.start c.args.shape c.args.steps.now c.in_ok-ordered-in-Ok.ordered.items (map (λ v. v.items) c.args.logs.now) c.in-Ok.order.items c.in-Ok.ensures.order.0 c.requires.logs c.requires.within
    (rw c.deref.ensures.value at c.in_ok-ordered-in-Ok.ensures) c.in-Ok.ensures.order.1

pub returns-in-Err-Stuck-clause-why : goal.returns-in-Err-Stuck-clause-why
returns-in-Err-Stuck-clause-why g c =
    let f = rw c.in-Err-Stuck.field-0-is at c.in-Err-Stuck.ensures.fault in
    let s = rw (c.in-Err-Stuck.process-is, c.in-Err-Stuck.number-is) at c.stuck_step.ensures in
    subst (λ (v : VerifyFault). BlamesOrder g.F.FrontEnd.start c.args.shape c.args.steps.now v) (sym s.1)
    (s.0, refl, stuck_step g.F.FrontEnd.start c.args.shape c.args.steps.now (map (λ v. v.items) c.args.logs.now) c.in-Err-Stuck.process c.in-Err-Stuck.number s.0 c.requires.logs f.1 s.2)
