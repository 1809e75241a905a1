use Rattle.std.proofs.Common.{ap, sym, length, ◌∙◌, arith}
use Rattle.std.specs.Prelude.{slice_get, slice_index_or}
use Rattle.reg_links.specs.Sending.{link_to}
use Rattle.reg_process.specs.Parts.{nothing}
use Rattle.reg_process.specs.Queued.{outs_of}
use Rattle.reg_process.proofs.Again.{again_get, again_own, again_past, again_nowhere}
use Rattle.reg_process.proofs.Outs.{again_same, length-outs}
use Rattle.reg_process.proofs.puts.resend_at.Goals.{then-to-me-via-then-to-me}
use Rattle.reg_process.proofs.puts.resend_at.Goals.{then-to-me-via-else-to-me+then-to-processes}
use Rattle.reg_process.proofs.puts.resend_at.Goals.{then-to-me-via-else-to-me+else-to-processes+then-place-ge-MOST_RESENT}
use Rattle.reg_process.proofs.puts.resend_at.Goals as goal

pub returns-then-to-me : goal.returns-then-to-me
returns-then-to-me g c =
    let outs = outs_of c.args.me c.args.outboxes.now in
    let out = slice_index_or outs c.args.to nothing in
    elim c.then-to-me.branch [
      | then-to-me-via-then-to-me w ↦ sym (again_own c.args.me c.args.to c.args.place out w.if-to-me.true)
      | then-to-me-via-else-to-me+then-to-processes w ↦
          let n = length-outs c.args.me c.args.outboxes.now in let e = w.processes.ensures in let t = w.if-to-processes.true in
          sym (again_nowhere c.args.me c.args.to c.args.place outs (omega (arith, n, e, t)))
      | then-to-me-via-else-to-me+else-to-processes+then-place-ge-MOST_RESENT w ↦ let t = w.if-place-ge-MOST_RESENT.true in sym (again_past c.args.me c.args.to c.args.place out (omega (arith, t)))
    ]

pub returns : goal.returns
returns g c =
    let s = c.args.outboxes.now in
    let e = c.processes.ensures in
    let t = c.if-to-processes.false in
    let p = c.if-place-ge-MOST_RESENT.false in
    c.resend.ensures
    ∙ (sym (again_get c.args.me c.args.to c.args.place (link_to s c.args.to) c.if-to-me.false (omega (arith, p)))
    ∙ ap (λ l. slice_get l c.args.place) (again_same c.args.me s c.args.to (omega (arith, e, t))))
