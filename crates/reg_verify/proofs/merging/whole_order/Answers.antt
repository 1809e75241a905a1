use Rattle.std.proofs.Common.{map}
use Rattle.reg_verify.proofs.Merged.{left_out}
use Rattle.reg_verify.proofs.merging.whole_order.Goals as goal

pub returns-in-Some-clause-fault : goal.returns-in-Some-clause-fault
returns-in-Some-clause-fault g c =
    let f = rw c.in-Some.is at c.in-Ok.ensures.left in
    left_out g.F.FrontEnd.start c.args.shape (map (λ v. v.items) c.args.logs.now) c.in-Ok.merged.order.items c.in-Some.left.process c.in-Some.left.place c.in-Ok.ensures.greatest f
