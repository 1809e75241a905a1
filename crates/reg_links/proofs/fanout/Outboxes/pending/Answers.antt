use Rattle.std.proofs.Common.{◌≡◌, ◌+◌, ◌-◌, ◌<◌, length, subst, ap, ◌∙◌, arith}
use Rattle.std.specs.Prelude.{slice_index}
use Rattle.std.proofs.lemmas.List.{get_or_default}
use Rattle.reg_links.specs.Sending.{Sending, link_to}
use Rattle.reg_links.proofs.Sendings.{pending_is}
use Rattle.reg_links.proofs.fanout.Outboxes.pending.Goals as goal

pub returns-clause-value : goal.returns-clause-value
returns-clause-value g c =
    let s : Sending = record { first = c.self.inside.first; bodies = c.self.inside.bodies.items; counts = c.self.inside.counts.items } in
    let l : c.args.to < length s.counts = let z = ap (λ (s : Sending). length s.counts) c.self.view_is in let y = c.requires in omega (arith, z, y) in
    let count : c.index.result.now ≡ slice_index s.counts c.args.to = c.index.ensures ∙ get_or_default s.counts c.args.to _ 0 l in
    let e = c.len.ensures in
    let a = pending_is s c.self.invariant c.args.to l in
    subst (λ (s : Sending). c.self.inside.first + c.len.result - c.index.result.now ≡ length (link_to s c.args.to).pending) c.self.view_is (omega (arith, count, e, a))
