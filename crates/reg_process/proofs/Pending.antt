-- The numbers of the links do not fill before the clock does, and the count of what is not acknowledged.
use Rattle.std.proofs.Common.{◌≡◌, ℕ, zero, suc, ◌+◌, ◌<◌, ◌≤◌, Bool, true, false, cond, List, [], ◌∷◌, drop, length}
use Rattle.std.proofs.Common.{Some, None, refl, ap, ◌∙◌, arith}
use Rattle.std.specs.Prelude.{nat_eq, slice_index, slice_index_or}
use Rattle.std.proofs.lemmas.Bool.Decides.{nat_tests}
use Rattle.reg_base.specs.declared.limits.TheConstants.{FRAME_NUMBERS, LAST_TIME}
use Rattle.reg_links.specs.declared.outboxes.LinkFault.TheVariants.{NumberFull}
use Rattle.reg_links.specs.Link.{Unacknowledged}
use Rattle.reg_links.specs.Sending.{Sending, next_all, full_fault}
use Rattle.reg_process.specs.Process.{pending_of, peer_at, seen_at}
use Rattle.reg_process.specs.Process as process
use Rattle.reg_base.specs.Order.{stamp_at}
use Rattle.reg_holdback.specs.Waiting.{receive_fault}
use Rattle.reg_holdback.proofs.Casts.{no_fault}
use Rattle.reg_process.proofs.Deliveries.{merged_seen}
use Rattle.reg_process.proofs.Sending.{merged_next}
use Rattle.reg_process.specs.Parts.{Parts, state_of, merged, nothing}
use Rattle.reg_process.specs.Bounds.{Good}
use Rattle.reg_process.specs.Queued.{HasNumbers, pending_in}

pub not_full : (s : Sending) → next_all s < FRAME_NUMBERS → full_fault s ≡ Some NumberFull → ⊥
not_full s h e = go (nat_eq (next_all s) FRAME_NUMBERS) refl e
  where
    go : (b : Bool) → nat_eq (next_all s) FRAME_NUMBERS ≡ b → cond b (Some NumberFull) None ≡ Some NumberFull → ⊥
    go true t q = let same : next_all s ≡ FRAME_NUMBERS = grind (arith, nat_tests) in absurd (omega (arith, same, h))
    go false t q = absurd (cc)

-- every body queued raised the clock, so while the clock is not full, no link is
pub has_numbers : (p : Parts) → Good p → p.clock < LAST_TIME → HasNumbers p.outs
has_numbers p good l i = let n = good.numbers i in omega (arith, n, l)

-- one more is counted
pub pending_drop : (outs : List Unacknowledged) (i : ℕ) → i < length outs
    → pending_in (drop i outs) ≡ length (slice_index_or outs i nothing).pending + pending_in (drop (suc i) outs)
pending_drop [] i l = absurd (omega arith)
pending_drop (o ∷ os) zero l = refl
pending_drop (o ∷ os) (suc i) l = pending_drop os i (omega arith)

pub pending_end : (outs : List Unacknowledged) (i : ℕ) → length outs ≤ i → pending_in (drop i outs) ≡ 0
pending_end [] i l = ends i
  where
    ends : (i : ℕ) → pending_in (drop i []) ≡ 0
    ends zero = refl
    ends (suc i) = refl
pending_end (o ∷ os) zero l = absurd (omega arith)
pending_end (o ∷ os) (suc i) l = pending_end os i (omega arith)

pub merged_pending : (ts es : List ℕ) (os : List Unacknowledged) → length es ≡ length ts → length os ≡ length ts
    → pending_of (merged ts es os) ≡ pending_in os
merged_pending [] es [] a b = refl
merged_pending [] es (o ∷ os) a b = absurd (omega arith)
merged_pending (t ∷ ts) [] os a b = absurd (omega arith)
merged_pending (t ∷ ts) (e ∷ es) [] a b = absurd (omega arith)
merged_pending (t ∷ ts) (e ∷ es) (o ∷ os) a b =
    ap (λ n. length o.pending + n) (merged_pending ts es os (omega arith) (omega arith))

-- a body of a peer, above what was seen of it, is taken in
pub not_stale : (p : Parts) → Good p → (from time : ℕ) → from < length p.waiting.seen → (from ≡ p.me → ⊥)
    → seen_at (state_of p) from < time → receive_fault p.waiting (stamp_at time from) ≡ None
not_stale p good from time peer other up =
    let was : seen_at (state_of p) from ≡ slice_index p.waiting.seen from = merged_seen p.waiting.seen p.expected p.outs from good.ins good.out in
    no_fault p.waiting (stamp_at time from) (λ q. other (q ∙ good.same)) peer (omega (arith, was, up))

-- no link has used up more numbers than the clock shows
pub numbered : (p : Parts) → Good p → (r : ℕ) → process.next_of (peer_at (state_of p) r) ≤ p.clock
numbered p good r = let e = merged_next p.waiting.seen p.expected p.outs r good.ins good.out in let n = good.numbers r in omega (arith, e, n)
