use Rattle.std.proofs.Common.{◌≡◌, ◌+◌, ◌-◌, ◌<◌, Some, None, length, subst, ap, ◌∙◌, arith}
use Rattle.std.specs.Prelude.{slice_index}
use Rattle.std.proofs.lemmas.List.{get_or_default}
use Rattle.reg_frames.specs.declared.bodies.Frame.TheVariants.{Numbered}
use Rattle.reg_links.specs.Sending.{Sending}
use Rattle.reg_links.proofs.Sendings.{first_low, pending_is, resent, none_resent, one_resent}
use Rattle.reg_links.proofs.fanout.Outboxes.resend.Goals as goal

pub overflow_sub-acknowledged : goal.overflow_sub-acknowledged
overflow_sub-acknowledged g c =
    let s : Sending = record { first = c.self.inside.first; bodies = c.self.inside.bodies.items; counts = c.self.inside.counts.items } in
    let l : c.args.to < length s.counts = let z = ap (λ (s : Sending). length s.counts) c.self.view_is in let y = c.requires in omega (arith, z, y) in
    let count : c.index-count.result.now ≡ slice_index s.counts c.args.to = c.index-count.ensures ∙ get_or_default s.counts c.args.to _ 0 l in
    let a = first_low s c.self.invariant c.args.to l in
    omega (arith, count, a)

pub overflow_sub-len : goal.overflow_sub-len
overflow_sub-len g c =
    let s : Sending = record { first = c.self.inside.first; bodies = c.self.inside.bodies.items; counts = c.self.inside.counts.items } in
    let l : c.args.to < length s.counts = let z = ap (λ (s : Sending). length s.counts) c.self.view_is in let y = c.requires in omega (arith, z, y) in
    let count : c.index-count.result.now ≡ slice_index s.counts c.args.to = c.index-count.ensures ∙ get_or_default s.counts c.args.to _ 0 l in
    let a = c.self.invariant.counts c.args.to in
    let e = c.len.ensures in
    omega (arith, count, a, e)

pub returns-then-i-len : goal.returns-then-i-len
returns-then-i-len g c =
    let s : Sending = record { first = c.self.inside.first; bodies = c.self.inside.bodies.items; counts = c.self.inside.counts.items } in
    let l : c.args.to < length s.counts = let z = ap (λ (s : Sending). length s.counts) c.self.view_is in let y = c.requires in omega (arith, z, y) in
    let count : c.index-count.result.now ≡ slice_index s.counts c.args.to = c.index-count.ensures ∙ get_or_default s.counts c.args.to _ 0 l in
    let a = pending_is s c.self.invariant c.args.to l in
    let low = first_low s c.self.invariant c.args.to l in
    let e = c.len.ensures in
    let t = c.if-i-len.true in
    subst (λ (s : Sending). None ≡ resent s c.args.to c.args.i) c.self.view_is
    (none_resent s c.args.to c.args.i (omega (arith, count, a, low, e, t)))

pub returns : goal.returns
returns g c =
    let s : Sending = record { first = c.self.inside.first; bodies = c.self.inside.bodies.items; counts = c.self.inside.counts.items } in
    let l : c.args.to < length s.counts = let z = ap (λ (s : Sending). length s.counts) c.self.view_is in let y = c.requires in omega (arith, z, y) in
    let count : c.index-count.result.now ≡ slice_index s.counts c.args.to = c.index-count.ensures ∙ get_or_default s.counts c.args.to _ 0 l in
    let low = first_low s c.self.invariant c.args.to l in
    let at : c.index-count.result.now - c.self.inside.first + c.args.i ≡ slice_index s.counts c.args.to - s.first + c.args.i = omega (arith, count) in
    let t = c.if-i-len.false in
    let e = c.len.ensures in
    subst (λ (s : Sending). Some (Numbered (c.index-count.result.now + c.args.i) c.in_ok-body.field-0.now) ≡ resent s c.args.to c.args.i) c.self.view_is
    (ap (λ k. Some (Numbered (k + c.args.i) c.in_ok-body.field-0.now)) count
    ∙ one_resent s c.args.to c.args.i (c.index-count.result.now - c.self.inside.first + c.args.i) c.in_ok-body.field-0.now at (omega (arith, t, e)) c.in_ok-body.ensures.lookup)
