use Rattle.std.proofs.Common.{ℕ, ◌≤◌, subst, arith}
use Rattle.reg_process.specs.Process.{State, peer_at, next_of}
use Rattle.reg_process.specs.Parts.{Parts}
use Rattle.reg_process.specs.Queued.{outs_of}
use Rattle.reg_process.proofs.Pending.{numbered}
use Rattle.reg_process.proofs.parts.Core.clock.Goals as goal

pub returns-clause-numbers : goal.returns-clause-numbers
returns-clause-numbers g c =
    let p : Parts = record { me = c.self.inside.me; clock = c.self.inside.clock; waiting = c.self.inside.waiting; expected = c.self.inside.inboxes.items; outs = outs_of c.self.inside.me c.self.inside.outboxes; copy = c.self.inside.copy; delivered = c.self.inside.delivered; unsettled = c.self.inside.unsettled; running = c.self.inside.running; calls = c.self.inside.calls } in
    subst (λ (s : State). (r : ℕ) → next_of (peer_at s r) ≤ c.now.result) c.self.view_is
    (λ r. let n = numbered p c.self.invariant r in let e = c.now.ensures.value in omega (arith, n, e))
