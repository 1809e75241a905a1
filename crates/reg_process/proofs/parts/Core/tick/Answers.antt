use Rattle.std.proofs.Common.{◌≢◌, [], List, length, subst, ◌∙◌, ap}
use Rattle.reg_process.specs.Process.{State, resent}
use Rattle.reg_process.specs.Parts.{Parts}
use Rattle.reg_process.specs.Queued.{outs_of}
use Rattle.reg_frames.specs.declared.puts.Put.{Put}
use Rattle.reg_process.specs.Puts.{puts}
use Rattle.reg_process.proofs.Again.{again_is, on_err}
use Rattle.reg_process.proofs.parts.Core.tick.Goals as goal

pub returns-clause-frames : goal.returns-clause-frames
returns-clause-frames g c =
    let p : Parts = record { me = c.self.inside.me; clock = c.self.inside.clock; waiting = c.self.inside.waiting; expected = c.self.inside.inboxes.items; outs = outs_of c.self.inside.me c.self.inside.outboxes; copy = c.self.inside.copy; delivered = c.self.inside.delivered; unsettled = c.self.inside.unsettled; running = c.self.inside.running; calls = c.self.inside.calls } in
    c.in_ok-resend_all.ensures.frames ∙ (again_is p c.self.invariant ∙ ap (λ (s : State). puts (resent s) (length s.peers)) c.self.view_is)

pub returns-in_err-resend_all-clause-memory : goal.returns-in_err-resend_all-clause-memory
returns-in_err-resend_all-clause-memory g c =
    let p : Parts = record { me = c.self.inside.me; clock = c.self.inside.clock; waiting = c.self.inside.waiting; expected = c.self.inside.inboxes.items; outs = outs_of c.self.inside.me c.self.inside.outboxes; copy = c.self.inside.copy; delivered = c.self.inside.delivered; unsettled = c.self.inside.unsettled; running = c.self.inside.running; calls = c.self.inside.calls } in
    on_err c.from_residual.result (puts (resent c.args.self.now) (length c.args.self.now.peers) ≢ [])
    (subst (λ (s : State). puts (resent s) (length s.peers) ≢ []) c.self.view_is
    (subst (λ (fs : List Put). fs ≢ []) (again_is p c.self.invariant) c.in_err-resend_all.ensures.memory))
