use Rattle.std.proofs.Common.{arith, ◌≡◌, map, length, refl}
use Rattle.std.proofs.lemmas.Grind.{common_steps}
use Rattle.std.proofs.lemmas.List.{length-map}
use Rattle.reg_live.proofs.Owning.{lived}
use Rattle.reg_live.proofs.closing.run_of.Goals as goal

pub returns-clause-lived : goal.returns-clause-lived
returns-clause-lived g c =
    let record_of = rw c.deref-2.ensures.value at c.in_ok-world.ensures in
    let len : length (map (λ v. v.items) c.in-Ok-lists_of.receipts.items) ≡ c.args.shape.processes = let e = c.in-Ok-lists_of.ensures.len in simp length-map (grind (arith, common_steps)) in
    lived g.F.FrontEnd.start c.args.shape c.args.shape _ _ (map (λ v. v.items) c.in-Ok-lists_of.receipts.items) c.in_ok-world.world record_of refl len
