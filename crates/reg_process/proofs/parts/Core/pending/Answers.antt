use Rattle.std.proofs.Common.{◌≡◌, sym, subst, ◌∙◌}
use Rattle.reg_process.specs.Process.{State, pending_of}
use Rattle.reg_process.specs.Queued.{outs_of}
use Rattle.reg_process.proofs.Pending.{merged_pending}
use Rattle.reg_process.proofs.parts.Core.pending.Goals as goal

pub returns : goal.returns
returns g c =
    subst (λ (s : State). c.pending_in.result ≡ pending_of s.peers) c.self.view_is
    (c.pending_in.ensures ∙ sym (merged_pending c.self.inside.waiting.seen c.self.inside.inboxes.items (outs_of c.self.inside.me c.self.inside.outboxes) c.self.invariant.ins c.self.invariant.out))
