use Rattle.std.proofs.Common.{◌≡◌, ℕ, ◌+◌, ◌<◌, length, subst, arith}
use Rattle.reg_links.specs.Link.{next_of}
use Rattle.reg_links.specs.Sending.{Sending, link_to}
use Rattle.reg_links.proofs.Sendings.{next_same}
use Rattle.reg_links.proofs.fanout.Outboxes.next.Goals as goal

pub returns-clause-links : goal.returns-clause-links
returns-clause-links g c =
    let s : Sending = record { first = c.self.inside.first; bodies = c.self.inside.bodies.items; counts = c.self.inside.counts.items } in
    subst (λ (s : Sending). (r : ℕ) → r < length s.counts → next_of (link_to s r) ≡ c.self.inside.first + c.len.result) c.self.view_is
    (λ r l. let a = next_same s c.self.invariant r l in let e = c.len.ensures in omega (arith, a, e))
