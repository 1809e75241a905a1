use Rattle.std.proofs.Common.{◌≡◌, sym, ap, subst, ◌∙◌}
use Rattle.std.specs.Prelude.{nat_lt}
use Rattle.reg_process.specs.Process.{State, pending_of}
use Rattle.reg_process.specs.Queued.{outs_of}
use Rattle.reg_process.proofs.Pending.{merged_pending}
use Rattle.reg_process.proofs.parts.Core.is_pending.Goals as goal

pub returns : goal.returns
returns g c =
    subst (λ (s : State). c.is_pending_in.result ≡ nat_lt 0 (pending_of s.peers)) c.self.view_is
    (c.is_pending_in.ensures ∙ ap (nat_lt 0) (sym (merged_pending c.self.inside.waiting.seen c.self.inside.inboxes.items (outs_of c.self.inside.me c.self.inside.outboxes) c.self.invariant.ins c.self.invariant.out)))
