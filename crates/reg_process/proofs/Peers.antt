-- What is kept for a peer after each change, and what it means to be clear.
use Rattle.std.proofs.Common.{◌≡◌, ℕ, zero, suc, ◌+◌, ◌<◌, Bool, true, false, List, [], ◌∷◌, ◌++◌, length, refl, ap}
use Rattle.std.proofs.Common.{arith}
use Rattle.std.specs.Prelude.{cond, slice_index_or, ◌==◌}
use Rattle.std.specs.Bool.{Decides}
use Rattle.std.proofs.lemmas.Bool.{cond-true, cond-false, eq-eqb, ne_eqb}
use Rattle.reg_base.specs.declared.stamps.Stamp.{Stamp}
use Rattle.reg_frames.specs.declared.bodies.Body.{Body}
use Rattle.reg_base.specs.Order.{Below, AtMost}
use Rattle.reg_process.specs.Process.{Peer, State, no_peer, seen_at, is_clear, IsClear, queue_from}
use Rattle.reg_base.proofs.Orders as orders

pub Decides-clear : (s : State) (stamp : Stamp) → Decides (is_clear s stamp) (IsClear s stamp)
Decides-clear s = orders.Decides-clear s.me (seen_at s) (length s.peers)

pub clear_down : (s : State) (a b : Stamp) → AtMost a b → IsClear s b → IsClear s a
clear_down s = orders.clear_down s.me (seen_at s) (length s.peers)

pub clear_below : (s : State) (a b : Stamp) → Below a b → IsClear s b → IsClear s a
clear_below s = orders.clear_below s.me (seen_at s) (length s.peers)

-- queueing leaves the own entry, and puts the body at the end of the others
pub queue_same : (body : Body) (r me : ℕ) (ps : List Peer) (i : ℕ) → r + i ≡ me
    → slice_index_or (queue_from r me body ps) i no_peer ≡ slice_index_or ps i no_peer
queue_same body r me [] i e = refl
queue_same body r me (p ∷ ps) zero e = cond-true (r == me) p _ (eq-eqb r me (omega arith))
queue_same body r me (p ∷ ps) (suc i) e = queue_same body (suc r) me ps i (omega arith)

pub queue_other : (body : Body) (r me : ℕ) (ps : List Peer) (i : ℕ) → i < length ps → (r + i ≡ me → ⊥)
    → slice_index_or (queue_from r me body ps) i no_peer
    ≡ record (slice_index_or ps i no_peer) { pending = (slice_index_or ps i no_peer).pending ++ body ∷ [] }
queue_other body r me [] i l ne = absurd (omega arith)
queue_other body r me (p ∷ ps) zero l ne = cond-false (r == me) p _ (ne_eqb r me (λ e. ne (omega arith)))
queue_other body r me (p ∷ ps) (suc i) l ne = queue_other body (suc r) me ps i (omega arith) (λ e. ne (omega arith))

pub length-queue : (body : Body) (r me : ℕ) (ps : List Peer) → length (queue_from r me body ps) ≡ length ps
length-queue body r me [] = refl
length-queue body r me (p ∷ ps) = ap suc (length-queue body (suc r) me ps)

-- what queueing leaves of each entry
pub queue_seen : (body : Body) (r me : ℕ) (ps : List Peer) (i : ℕ)
    → (slice_index_or (queue_from r me body ps) i no_peer).seen ≡ (slice_index_or ps i no_peer).seen
queue_seen body r me [] i = refl
queue_seen body r me (p ∷ ps) zero = cond_seen (r == me) p body
  where
    cond_seen : (b : Bool) (p : Peer) (body : Body) → (cond b p (record p { pending = p.pending ++ body ∷ [] })).seen ≡ p.seen
    cond_seen true p body = refl
    cond_seen false p body = refl
queue_seen body r me (p ∷ ps) (suc i) = queue_seen body (suc r) me ps i

pub queue_expected : (body : Body) (r me : ℕ) (ps : List Peer) (i : ℕ)
    → (slice_index_or (queue_from r me body ps) i no_peer).expected ≡ (slice_index_or ps i no_peer).expected
queue_expected body r me [] i = refl
queue_expected body r me (p ∷ ps) zero = cond_expected (r == me) p body
  where
    cond_expected : (b : Bool) (p : Peer) (body : Body) → (cond b p (record p { pending = p.pending ++ body ∷ [] })).expected ≡ p.expected
    cond_expected true p body = refl
    cond_expected false p body = refl
queue_expected body r me (p ∷ ps) (suc i) = queue_expected body (suc r) me ps i
