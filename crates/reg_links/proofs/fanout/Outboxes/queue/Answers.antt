use Rattle.std.proofs.Common.{◌<◌, List, length, subst, sym, ap, arith}
use Rattle.std.proofs.lemmas.Grind.{common_steps}
use Rattle.reg_base.specs.declared.limits.TheConstants.{FRAME_NUMBERS}
use Rattle.reg_frames.specs.declared.bodies.Body.{Body}
use Rattle.reg_links.specs.Sending.{Sending, next_all}
use Rattle.reg_links.specs.Bounds.{InStep}
use Rattle.reg_links.proofs.Sendings.{body_good}
use Rattle.reg_links.proofs.fanout.Outboxes.queue.Goals as goal

pub invariant_of-self-2 : goal.invariant_of-self-2
invariant_of-self-2 g c =
    let s : Sending = record { first = c.self.inside.first; bodies = c.self.inside.bodies.items; counts = c.self.inside.counts.items } in
    let l : c.args.me < length s.counts = let z = ap (λ (s : Sending). length s.counts) c.self.view_is in let y = c.requires in omega (arith, z, y) in
    let room : next_all s < FRAME_NUMBERS = let z = ap next_all c.self.view_is in let y = c.next-number.ensures.value in let x = c.next-number.ensures.in_range in let w = c.if-number-eq-FRAME_NUMBERS.false in omega (arith, z, y, x, w) in
    subst (λ (bodies : List Body). InStep (record s { bodies = bodies })) (sym c.in-Ok.ensures.items) (body_good s c.self.invariant c.args.me c.args.body l room)

pub returns-clause-answer : goal.returns-clause-answer
returns-clause-answer g c = grind (arith, common_steps)
