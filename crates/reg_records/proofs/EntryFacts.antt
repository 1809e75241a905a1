-- How many frames are not acknowledged, over all links, where one entry changes or a body is queued.
use Rattle.std.proofs.Common.{◌≡◌, ℕ, zero, suc, ◌+◌, ◌<◌, ◌≤◌, Bool, true, false, List, [], ◌∷◌, ◌++◌, length, refl}
use Rattle.std.proofs.Common.{sym, inl, inr, arith, length-append}
use Rattle.std.specs.Prelude.{cond, ◌==◌, slice_index_or, slice_set}
use Rattle.std.proofs.lemmas.Bool.{eq-eqb, ne_eqb, cases_eq, cases_lt, false≢true}
use Rattle.reg_frames.specs.declared.bodies.Body.{Body}
use Rattle.reg_process.specs.Process.{Peer, no_peer, queue_from, pending_of}

pub pending_set : (ps : List Peer) (a : ℕ) (q : Peer) → a < length ps
    → pending_of (slice_set ps a q) + length (slice_index_or ps a no_peer).pending ≡ pending_of ps + length q.pending
pending_set [] a q l = absurd (omega (arith, l))
pending_set (p ∷ ps) zero q l = omega arith
pending_set (p ∷ ps) (suc a) q l = let r = pending_set ps a q (omega (arith, l)) in omega (arith, r)

pub pending_one : (ps : List Peer) (a : ℕ) → length (slice_index_or ps a no_peer).pending ≤ pending_of ps
pending_one [] a = omega arith
pending_one (p ∷ ps) zero = omega arith
pending_one (p ∷ ps) (suc a) = let r = pending_one ps a in omega (arith, r)

pub pending_none : (ps : List Peer) → ((a : ℕ) → a < length ps → length (slice_index_or ps a no_peer).pending ≡ 0)
    → pending_of ps ≡ 0
pending_none [] h = refl
pending_none (p ∷ ps) h =
    let a = h 0 (omega arith) in
    let r = pending_none ps (λ a l. h (suc a) (omega (arith, l))) in
    omega (arith, a, r)

pub pending_some : (ps : List Peer) → 0 < pending_of ps
    → (a : ℕ) × (a < length ps) × (0 < length (slice_index_or ps a no_peer).pending)
pending_some [] h = absurd (omega (arith, h))
pending_some (p ∷ ps) h = elim (cases_lt 0 (length p.pending)) [
  | inl l ↦ (0, omega arith, l)
  | inr l ↦ let r = pending_some ps (omega (arith, h, l)) in (suc r.0, omega (arith, r.1), r.2)
]

-- the entry of a process after a body was queued
abbrev pub queued : Bool → Peer → Body → Peer
queued own p body = cond own p (record p { pending = p.pending ++ body ∷ [] })

one_queued : (own : Bool) (p : Peer) (body : Body) → own ≡ false
    → length (queued own p body).pending ≡ length p.pending + 1
one_queued true p body e = absurd (false≢true (sym e))
one_queued false p body e = length-append p.pending (body ∷ [])

none_queued : (own : Bool) (p : Peer) (body : Body) → own ≡ true → length (queued own p body).pending ≡ length p.pending
none_queued true p body e = refl
none_queued false p body e = absurd (false≢true e)

queue_above : (body : Body) (r me : ℕ) (ps : List Peer) → me < r
    → pending_of (queue_from r me body ps) ≡ pending_of ps + length ps
queue_above body r me [] l = refl
queue_above body r me (p ∷ ps) l =
    let a = one_queued (r == me) p body (ne_eqb r me (λ e. absurd (omega (arith, l, e)))) in
    let b = queue_above body (suc r) me ps (omega (arith, l)) in
    omega (arith, a, b)

queue_below : (body : Body) (r me : ℕ) (ps : List Peer) → r ≤ me → me < r + length ps
    → pending_of (queue_from r me body ps) + 1 ≡ pending_of ps + length ps
queue_below body r me [] l m = absurd (omega (arith, l, m))
queue_below body r me (p ∷ ps) l m = elim (cases_eq r me) [
  | inl e ↦
      let a = none_queued (r == me) p body (eq-eqb r me e) in
      let b = queue_above body (suc r) me ps (omega (arith, e)) in
      omega (arith, a, b)
  | inr ne ↦
      let a = one_queued (r == me) p body (ne_eqb r me ne) in
      let b = queue_below body (suc r) me ps (omega (arith, l, ne)) (omega (arith, m)) in
      omega (arith, a, b)
]

-- each other entry has one more
pub pending_queue : (body : Body) (me : ℕ) (ps : List Peer) → me < length ps
    → pending_of (queue_from 0 me body ps) + 1 ≡ pending_of ps + length ps
pending_queue body me ps l = queue_below body 0 me ps (omega arith) (omega (arith, l))
