use Rattle.std.proofs.Common.{ap, ◌∙◌}
use Rattle.std.specs.Prelude.{slice_get}
use Rattle.reg_process.specs.Process.{State, resent}
use Rattle.reg_process.specs.Parts.{Parts}
use Rattle.reg_process.specs.Queued.{outs_of}
use Rattle.reg_process.proofs.Again.{resent_at}
use Rattle.reg_process.proofs.parts.Core.resend.Goals as goal

pub returns : goal.returns
returns g c =
    let p : Parts = record { me = c.self.inside.me; clock = c.self.inside.clock; waiting = c.self.inside.waiting; expected = c.self.inside.inboxes.items; outs = outs_of c.self.inside.me c.self.inside.outboxes; copy = c.self.inside.copy; delivered = c.self.inside.delivered; unsettled = c.self.inside.unsettled; running = c.self.inside.running; calls = c.self.inside.calls } in
    c.resend_at.ensures
    ∙ (ap (λ l. slice_get l c.args.place) (resent_at p c.self.invariant c.args.to)
    ∙ ap (λ (s : State). slice_get (resent s c.args.to) c.args.place) c.self.view_is)
