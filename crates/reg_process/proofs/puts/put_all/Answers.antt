use Rattle.std.proofs.Common.{◌≡◌, ◌++◌, length, map, sym, ap, ◌∙◌, arith, add-one}
use Rattle.reg_process.specs.Puts.{puts, put_to}
use Rattle.reg_process.specs.Sending.{sent_frames}
use Rattle.reg_process.proofs.Again.{on_err}
use Rattle.reg_process.proofs.Queues.{puts_grow}
use Rattle.reg_process.proofs.puts.put_all.Goals as goal

pub loop-r-preserved : goal.loop-r-preserved
loop-r-preserved g c = (
  c.in_ok-put_one.ensures.frames
      ∙ ap (λ x. x ++ map (put_to c.loop-r.r) (sent_frames c.args.sent.now c.loop-r.r)) c.loop-r.invariant.0
      ∙ sym (ap (puts (sent_frames c.args.sent.now)) (add-one c.loop-r.r)),
  let a = c.loop-r.invariant.1 in let b = c.put_one.ensures.room in omega (arith, a, b),
)

pub loop-r-init : goal.loop-r-init
loop-r-init g c = (c.requires, omega arith)

pub returns-clause-frames : goal.returns-clause-frames
returns-clause-frames g c =
    let end : c.loop-r.r ≡ c.args.processes = let t = c.loop-r-test.false in omega (arith, t) in
    c.loop-r.invariant.0 ∙ ap (puts (sent_frames c.args.sent.now)) end

pub returns-in_err-put_one-clause-memory : goal.returns-in_err-put_one-clause-memory
returns-in_err-put_one-clause-memory g c =
    let t = c.loop-r-test.true in
    let more = puts_grow (sent_frames c.args.sent.now) c.loop-r.r c.args.processes (omega (arith, t)) in
    let same = ap length c.loop-r.invariant.0 in
    let room = c.loop-r.invariant.1 in
    let full = c.in_err-put_one.ensures.memory in
    on_err c.from_residual.result _ (omega (arith, more, same, room, full))
