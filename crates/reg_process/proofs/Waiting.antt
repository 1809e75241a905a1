-- Nothing clear is held between events.
use Rattle.std.proofs.Common.{◌≡◌, ℕ, zero, suc, ◌<◌, Bool, true, false, not, List, [], ◌∷◌, length, refl, sym, ap}
use Rattle.std.proofs.Common.{subst}
use Rattle.std.specs.Prelude.{cond, slice_index_or, slice_set, ◌==◌}
use Rattle.reg_base.specs.declared.memory.Op.{Op}
use Rattle.reg_frames.specs.declared.bodies.Body.{Body}
use Rattle.reg_frames.specs.declared.bodies.Body.TheVariants.{Cast, Ack}
use Rattle.reg_frames.specs.declared.bodies.Frame.{Frame}
use Rattle.reg_frames.specs.declared.bodies.Frame.TheVariants.{Numbered, Got}
use Rattle.reg_front.specs.declared.starts.Start.{Start}
use Rattle.reg_front.specs.declared.starts.Start.TheVariants.{Cast as Casts, CastAndAnswer as CastsAndAnswers}
use Rattle.reg_front.specs.declared.starts.Start.TheVariants.{Look as Looks, Hold as Holds}
use Rattle.reg_process.specs.declared.steps.Step.{Step}
use Rattle.reg_process.specs.declared.steps.Step.TheVariants.{Call, Take, Tick}
use Rattle.reg_base.proofs.Lists.{in_filter}
use Rattle.std.proofs.Common.{◌+◌, Some, None}
use Rattle.reg_process.specs.Steps.{with_cast}
use Rattle.reg_process.specs.Process.{cast_made, accepts, Own, stamp_at, State, Peer, no_peer, is_clear}
use Rattle.reg_process.specs.Process.{delivered_state, called, taken, accepted, acknowledged, step, peer_at, quiet}
use Rattle.reg_process.specs.Process.{got_frames}
use Rattle.reg_process.specs.Settled.{NoneWaits}
use Rattle.reg_process.proofs.Peers.{Decides-clear}

not_both : (b : Bool) → not b ≡ true → b ≡ true → ⊥
not_both true h k = let bad : ⊥ = cc in bad
not_both false h k = let bad : ⊥ = cc in bad

pub after_delivery : (s : State) → NoneWaits (delivered_state s)
after_delivery s = λ c h k. not_both (is_clear s c.stamp) (in_filter c (λ c. not (is_clear s c.stamp)) s.held h).1 ((Decides-clear s c.stamp).1 k)

set_seen : (ps : List Peer) (i r : ℕ) (p : Peer) → p.seen ≡ (slice_index_or ps i no_peer).seen
    → (slice_index_or (slice_set ps i p) r no_peer).seen ≡ (slice_index_or ps r no_peer).seen
set_seen [] i r p e = refl
set_seen (x ∷ xs) zero zero p e = e
set_seen (x ∷ xs) zero (suc r) p e = refl
set_seen (x ∷ xs) (suc i) zero p e = refl
set_seen (x ∷ xs) (suc i) (suc r) p e = set_seen xs i r p e

set_length : (ps : List Peer) (i : ℕ) (p : Peer) → length (slice_set ps i p) ≡ length ps
set_length [] i p = refl
set_length (x ∷ xs) zero p = refl
set_length (x ∷ xs) (suc i) p = ap suc (set_length xs i p)

got_keeps : (s : State) (from count : ℕ) → NoneWaits s → NoneWaits (acknowledged s from count)
got_keeps s from count w = λ c h k. w c h (λ r l ne.
    subst (λ t. Rattle.reg_base.specs.Order.AtMost c.stamp (Rattle.reg_base.specs.Order.stamp_at t r)) (set_seen s.peers from r _ refl)
    (k r (subst (λ n. r < n) (sym (set_length s.peers from _)) l) ne))

called_keeps : (s : State) (op : Op) (st : Start) → NoneWaits s → NoneWaits (called s op st).0
called_keeps s op Casts w = after_delivery (cast_made s op (Some (Own (stamp_at (s.clock + 1) s.me) op)))
called_keeps s op CastsAndAnswers w = after_delivery (cast_made s op None)
called_keeps s op Looks w = w
called_keeps s op Holds w = w

accepted_keeps : (s : State) (from : ℕ) (body : Body) → NoneWaits (accepted s from body).0
accepted_keeps s from (Cast t op) = after_delivery (with_cast s from t op)
accepted_keeps s from (Ack t) = after_delivery (accepts from t s)

taken_keeps : (s : State) (from : ℕ) (f : Frame) → NoneWaits s → NoneWaits (taken s from f).0
taken_keeps s from (Got count) w = got_keeps s from count w
taken_keeps s from (Numbered number body) w = go (number == (peer_at s from).expected)
  where
    go : (b : Bool) → NoneWaits (cond b (accepted s from body) (quiet s (got_frames from (peer_at s from).expected))).0
    go true = accepted_keeps s from body
    go false = w

pub step_keeps : (start : Op → ℕ → Start) (s : State) (e : Step) → NoneWaits s → NoneWaits (step start s e).0
step_keeps start s (Call op) w = called_keeps s op _ w
step_keeps start s (Take from frame) w = taken_keeps s from frame w
step_keeps start s Tick w = w
