use Rattle.std.proofs.Common.{ℕ, List, sym, ◌≡◌, ◌+◌, ◌<◌, ◌≤◌, length, subst, ap, ◌∙◌, arith}
use Rattle.std.specs.Prelude.{slice_index, slice_set}
use Rattle.std.proofs.lemmas.List.{get_or_default}
use Rattle.reg_links.specs.Sending.{Sending, IsCounted, next_all}
use Rattle.reg_links.specs.Bounds.{least_from}
use Rattle.reg_links.proofs.Sendings.{rises, moved, moved_good, counted_all, counted_all_good}
use Rattle.reg_links.proofs.fanout.Outboxes.count.Goals as goal

pub least_again-first-requires : goal.least_again-first-requires
least_again-first-requires g c =
    let s : Sending = record { first = c.self.inside.first; bodies = c.self.inside.bodies.items; counts = c.self.inside.counts.items } in
    let l : c.args.from < length s.counts = let z = ap (λ (s : Sending). length s.counts) c.self.view_is in let y = c.requires.within in omega (arith, z, y) in
    let queued : c.args.count ≤ next_all s = let z = ap next_all c.self.view_is in let y = c.requires.queued in omega (arith, z, y) in
    let before : c.index-before.result.now ≡ slice_index s.counts c.args.from = c.index-before.ensures ∙ get_or_default s.counts c.args.from _ 0 l in
    let more : slice_index s.counts c.args.from < c.args.count = let z = c.if-count-before.false in omega (arith, before, z) in
    let next : c.self.inside.first + c.len.result ≡ next_all s = let e = c.len.ensures in omega (arith, e) in
    let r = rises s c.self.invariant c.args.from c.args.count l more queued in
    subst (λ (n : ℕ). c.self.inside.first ≤ least_from n c.as_slice-counts.result.now) (sym next) (subst (λ (cs : List ℕ). c.self.inside.first ≤ least_from (next_all s) cs) (sym c.as_slice-counts.ensures.value) r)

pub overflow_sub-first : goal.overflow_sub-first
overflow_sub-first g c =
    let s : Sending = record { first = c.self.inside.first; bodies = c.self.inside.bodies.items; counts = c.self.inside.counts.items } in
    let l : c.args.from < length s.counts = let z = ap (λ (s : Sending). length s.counts) c.self.view_is in let y = c.requires.within in omega (arith, z, y) in
    let queued : c.args.count ≤ next_all s = let z = ap next_all c.self.view_is in let y = c.requires.queued in omega (arith, z, y) in
    let before : c.index-before.result.now ≡ slice_index s.counts c.args.from = c.index-before.ensures ∙ get_or_default s.counts c.args.from _ 0 l in
    let more : slice_index s.counts c.args.from < c.args.count = let z = c.if-count-before.false in omega (arith, before, z) in
    let next : c.self.inside.first + c.len.result ≡ next_all s = let e = c.len.ensures in omega (arith, e) in
    let first : c.least_again-first.result ≡ least_from (next_all s) (slice_set s.counts c.args.from c.args.count) = c.least_again-first.ensures ∙ ap (least_from (c.self.inside.first + c.len.result)) c.as_slice-counts.ensures.value ∙ ap (λ n. least_from n (slice_set s.counts c.args.from c.args.count)) next in
    let r = rises s c.self.invariant c.args.from c.args.count l more queued in
    omega (arith, r, first)

pub invariant_of-self : goal.invariant_of-self
invariant_of-self g c =
    let s : Sending = record { first = c.self.inside.first; bodies = c.self.inside.bodies.items; counts = c.self.inside.counts.items } in
    let l : c.args.from < length s.counts = let z = ap (λ (s : Sending). length s.counts) c.self.view_is in let y = c.requires.within in omega (arith, z, y) in
    let queued : c.args.count ≤ next_all s = let z = ap next_all c.self.view_is in let y = c.requires.queued in omega (arith, z, y) in
    let before : c.index-before.result.now ≡ slice_index s.counts c.args.from = c.index-before.ensures ∙ get_or_default s.counts c.args.from _ 0 l in
    let more : slice_index s.counts c.args.from < c.args.count = let z = c.if-count-before.false in omega (arith, before, z) in
    let next : c.self.inside.first + c.len.result ≡ next_all s = let e = c.len.ensures in omega (arith, e) in
    let first : c.least_again-first.result ≡ least_from (next_all s) (slice_set s.counts c.args.from c.args.count) = c.least_again-first.ensures ∙ ap (least_from (c.self.inside.first + c.len.result)) c.as_slice-counts.ensures.value ∙ ap (λ n. least_from n (slice_set s.counts c.args.from c.args.count)) next in
    moved_good s c.self.invariant c.args.from c.args.count l more queued c.least_again-first.result c.forget.new.bodies.items first c.forget.ensures

pub invariant_of-self-else-before-self : goal.invariant_of-self-else-before-self
invariant_of-self-else-before-self g c =
    let s : Sending = record { first = c.self.inside.first; bodies = c.self.inside.bodies.items; counts = c.self.inside.counts.items } in
    let l : c.args.from < length s.counts = let z = ap (λ (s : Sending). length s.counts) c.self.view_is in let y = c.requires.within in omega (arith, z, y) in
    let queued : c.args.count ≤ next_all s = let z = ap next_all c.self.view_is in let y = c.requires.queued in omega (arith, z, y) in
    let before : c.index-before.result.now ≡ slice_index s.counts c.args.from = c.index-before.ensures ∙ get_or_default s.counts c.args.from _ 0 l in
    let more : slice_index s.counts c.args.from < c.args.count = let z = c.if-count-before.false in omega (arith, before, z) in
    let other : slice_index s.counts c.args.from ≡ s.first → ⊥ = λ q. absurd (let z = c.if-before-self.false in z (before ∙ q)) in
    counted_all_good s c.self.invariant c.args.from c.args.count l more queued other

pub returns-then-before-self-clause-counted : goal.returns-then-before-self-clause-counted
returns-then-before-self-clause-counted g c =
    let s : Sending = record { first = c.self.inside.first; bodies = c.self.inside.bodies.items; counts = c.self.inside.counts.items } in
    let l : c.args.from < length s.counts = let z = ap (λ (s : Sending). length s.counts) c.self.view_is in let y = c.requires.within in omega (arith, z, y) in
    let queued : c.args.count ≤ next_all s = let z = ap next_all c.self.view_is in let y = c.requires.queued in omega (arith, z, y) in
    let before : c.index-before.result.now ≡ slice_index s.counts c.args.from = c.index-before.ensures ∙ get_or_default s.counts c.args.from _ 0 l in
    let more : slice_index s.counts c.args.from < c.args.count = let z = c.if-count-before.false in omega (arith, before, z) in
    let next : c.self.inside.first + c.len.result ≡ next_all s = let e = c.len.ensures in omega (arith, e) in
    let first : c.least_again-first.result ≡ least_from (next_all s) (slice_set s.counts c.args.from c.args.count) = c.least_again-first.ensures ∙ ap (least_from (c.self.inside.first + c.len.result)) c.as_slice-counts.ensures.value ∙ ap (λ n. least_from n (slice_set s.counts c.args.from c.args.count)) next in
    subst (λ (s : Sending). IsCounted s c.args.from c.args.count (record { first = c.least_again-first.result; bodies = c.forget.new.bodies.items; counts = slice_set c.self.inside.counts.items c.args.from c.args.count })) c.self.view_is
    (moved s c.self.invariant c.args.from c.args.count l more queued c.least_again-first.result c.forget.new.bodies.items first c.forget.ensures)

pub returns-else-before-self-clause-counted : goal.returns-else-before-self-clause-counted
returns-else-before-self-clause-counted g c =
    let s : Sending = record { first = c.self.inside.first; bodies = c.self.inside.bodies.items; counts = c.self.inside.counts.items } in
    let l : c.args.from < length s.counts = let z = ap (λ (s : Sending). length s.counts) c.self.view_is in let y = c.requires.within in omega (arith, z, y) in
    let queued : c.args.count ≤ next_all s = let z = ap next_all c.self.view_is in let y = c.requires.queued in omega (arith, z, y) in
    let before : c.index-before.result.now ≡ slice_index s.counts c.args.from = c.index-before.ensures ∙ get_or_default s.counts c.args.from _ 0 l in
    let more : slice_index s.counts c.args.from < c.args.count = let z = c.if-count-before.false in omega (arith, before, z) in
    subst (λ (s : Sending). IsCounted s c.args.from c.args.count (record { first = c.self.inside.first; bodies = c.self.inside.bodies.items; counts = slice_set c.self.inside.counts.items c.args.from c.args.count })) c.self.view_is
    (counted_all s c.self.invariant c.args.from c.args.count l more queued)
