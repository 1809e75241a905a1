-- What a take and a tick do to how far a run is from rest, and to the link.
use Rattle.std.proofs.Common.{◌≡◌, ℕ, ◌+◌, ◌-◌, ◌*◌, ◌<◌, ◌≤◌, max, List, [], ◌∷◌, ◌++◌, length, take, drop, cond, Some}
use Rattle.std.proofs.Common.{refl, sym, ap, ◌∙◌, subst, inl, inr, arith, length-drop}
use Rattle.std.specs.Prelude.{◌==◌, slice_get, slice_index_or}
use Rattle.std.specs.List.{count_by}
use Rattle.std.proofs.lemmas.Bool.{cases_eq, cond_both, cond-true, eq-eqb, eqb-true, eqb-false}
use Rattle.std.proofs.lemmas.List.{append-nil, get_or-set_same, get_or-set_other}
use Rattle.reg_base.specs.declared.limits.TheConstants.{MOST_RESENT}
use Rattle.reg_base.specs.declared.memory.Op.{Op}
use Rattle.reg_frames.specs.declared.bodies.Body.{Body}
use Rattle.reg_frames.specs.declared.bodies.Body.TheVariants.{Cast, Ack}
use Rattle.reg_frames.specs.declared.bodies.Frame.{Frame}
use Rattle.reg_frames.specs.declared.bodies.Frame.TheVariants.{Numbered, Got}
use Rattle.reg_process.specs.Process.{State, Peer, no_peer, peer_at, pending_of, got_frames, data_frames, accepts}
use Rattle.reg_process.specs.Process.{taken, accepted, quiet, resent, numbered_from}
use Rattle.reg_process.proofs.Peers.{queue_expected}
use Rattle.reg_world.specs.Nodes.{Node, Nodes, put, after_result}
use Rattle.reg_world.proofs.one_order.Worlds.{Inv}
use Rattle.reg_world.proofs.one_order.Accepting.{accepts_is}
use Rattle.reg_records.specs.Rest.{is_cast, casts_between, casts_to, distance}
use Rattle.reg_records.proofs.EntryFacts.{pending_set, pending_queue}
use Rattle.reg_records.proofs.Casts.{weight, casts_passed, casts_acked}
use Rattle.reg_records.proofs.Nearer.{casts_for, nearer_by, casts_kept, casts_fewer}

at_end : (xs ys : List Frame) (x : Frame) → slice_get (xs ++ x ∷ ys) (length xs) ≡ Some x
at_end [] ys x = refl
at_end (z ∷ xs) ys x = at_end xs ys x

none_queued : (x : Node) (bs : List Body) → bs ≡ x.queued ++ [] → (k : ℕ)
    → count_by is_cast (drop k bs) ≡ count_by is_cast (drop k x.queued)
none_queued x bs e k = ap (λ q. count_by is_cast (drop k q)) (e ∙ append-nil x.queued)

got_here : (a count : ℕ) → got_frames a count a ≡ Got count ∷ []
got_here a count = cond-true (a == a) (Got count ∷ []) [] (eq-eqb a a refl)

-- p took the frame of number i that a put
pub record Took (n p a i : ℕ) (w : Nodes) (y : Node) : Type 0 where
  pub distance : distance n (put w p y) ≡ distance n w
  pub expects : i ≤ (peer_at (w p).state a).expected → i + 1 ≤ (peer_at y.state a).expected
  pub answer : slice_get (y.wire a) (length ((w p).wire a)) ≡ Some (Got (peer_at y.state a).expected)

-- p took a count of a
pub record Counted (n p a count : ℕ) (w : Nodes) (y : Node) : Type 0 where
  pub fall : ℕ
  pub pending : pending_of y.state.peers + fall ≡ pending_of (w p).state.peers
  pub distance : distance n (put w p y) + fall ≡ distance n w
  pub enough : (k : ℕ) → (peer_at (w p).state a).first + k ≤ count → k ≤ length (peer_at (w p).state a).pending
      → k ≤ fall
  pub wires : (r : ℕ) → y.wire r ≡ (w p).wire r
  pub links : (r : ℕ) → (r ≡ a → ⊥) → resent y.state r ≡ resent (w p).state r

same_left : (x y c d m : ℕ) → x ≡ y → c ≡ d → x + c * m + 0 ≡ y + d * m
same_left x y c d m e f = let g = ap (λ z. z * m) f in omega (arith, e, g)

-- the acknowledgement that a cast causes is one of those that were left
cast_left : (x y c d m n : ℕ) → x + 1 ≡ y + n → c + 1 ≡ d → n ≡ m + 1 → x + c * m + 0 ≡ y + d * m
cast_left x y c d m n e f g = let h : (c + 1) * m ≡ d * m = ap (λ z. z * m) f in omega (arith, e, g, h)

module _ (n registers k : ℕ) (w : Nodes) (I : Inv n registers k w) (p : ℕ) (l : p < n) where
  abbrev s : State
  s = (w p).state

  -- nothing is accepted
  pub quiet_same : (y : Node) → y.state.peers ≡ s.peers → y.queued ≡ (w p).queued ++ []
      → distance n (put w p y) ≡ distance n w
  quiet_same y ps q =
      let c = casts_kept n p w y (λ q _ _. ap (λ z. (slice_index_or z q no_peer).expected) ps) in
      let h = nearer_by n p w y l (none_queued (w p) y.queued q) 0 (same_left (pending_of y.state.peers) (pending_of s.peers) (casts_for n w p y) (casts_to n w p) (n - 1) (ap pending_of ps) c) in
      omega (arith, h)

  module _ (a : ℕ) (la : a < n) (ne : a ≡ p → ⊥) where
    abbrev e : ℕ
    e = (peer_at s a).expected

    in_peers : a < length s.peers
    in_peers = let z = (I.local p l).size in omega (arith, z, la)

    passed_by : (i : ℕ) (op : Op) → (i ≡ e → ⊥) → Took n p a i w (after_result (w p) op (quiet s (got_frames a e)))
    passed_by i op away = record {
      distance = quiet_same (after_result (w p) op (quiet s (got_frames a e))) refl refl;
      expects = λ h. omega (arith, h, away);
      answer = ap (λ fs. slice_get ((w p).wire a ++ fs) (length ((w p).wire a))) (got_here a e) ∙ at_end ((w p).wire a) [] (Got e);
    }

    -- what is accepted is left no longer
    fewer : (body : Body) (y : Node) → slice_get (w a).queued e ≡ Some body → ((q : ℕ) → q < n → (q ≡ a → ⊥) → (peer_at y.state q).expected ≡ (peer_at s q).expected) → (peer_at y.state a).expected ≡ e + 1 → casts_for n w p y + weight body ≡ casts_to n w p
    fewer body y at others own =
        let t = casts_fewer n p a w y la ne others in
        let u = casts_passed e (w a).queued body at in
        let v = ap (λ j. count_by is_cast (drop j (w a).queued)) own in
        sums (casts_for n w p y) (casts_between w a p) (casts_to n w p) _ _ (weight body) t v u
      where
        sums : (f b c d g x : ℕ) → f + b ≡ c + d → d ≡ g → b ≡ x + g → f + x ≡ c
        sums f b c d g x t v u = omega (arith, t, v, u)

    kept_pending : (t : ℕ) → pending_of (accepts a t s).peers ≡ pending_of s.peers
    kept_pending t = let r = pending_set s.peers a (record (peer_at s a) { seen = t; expected = (peer_at s a).expected + 1 }) in_peers in omega (arith, r)

    accepts_body : (body : Body) (op : Op) → slice_get (w a).queued e ≡ Some body → Took n p a e w (after_result (w p) op (accepted s a body))
    accepts_body (Ack t) op at =
        let y = after_result (w p) op (accepted s a (Ack t)) in
        let A = accepts_is s a t in_peers in
        let c = fewer (Ack t) y at (λ q _ away. A.expected_other q away) A.expected_same in
        let h = nearer_by n p w y l (none_queued (w p) y.queued refl) 0 (same_left (pending_of y.state.peers) (pending_of s.peers) (casts_for n w p y) (casts_to n w p) (n - 1) (kept_pending t) (omega (arith, c))) in
        record {
          distance = omega (arith, h);
          expects = λ _. let x = A.expected_same in omega (arith, x);
          answer = ap (λ fs. slice_get ((w p).wire a ++ fs) (length ((w p).wire a))) (got_here a (e + 1)) ∙ (at_end ((w p).wire a) [] (Got (e + 1)) ∙ ap (λ z. Some (Got z)) (sym A.expected_same));
        }
    accepts_body (Cast t o) op at =
        let T = max s.clock t + 1 in
        let s0 = accepts a t s in
        let y = after_result (w p) op (accepted s a (Cast t o)) in
        let A = accepts_is s a t in_peers in
        let own : (peer_at y.state a).expected ≡ e + 1 = queue_expected (Ack T) 0 s.me s0.peers a ∙ A.expected_same in
        let c = fewer (Cast t o) y at (λ q _ away. queue_expected (Ack T) 0 s.me s0.peers q ∙ A.expected_other q away) own in
        let me : s.me < length s0.peers = let x = (I.local p l).me in let z = (I.local p l).size in let v = A.size in omega (arith, x, z, v, l) in
        let more : pending_of y.state.peers + 1 ≡ pending_of s.peers + n =
        let x = pending_queue (Ack T) s.me s0.peers me in let u = kept_pending t in let z = (I.local p l).size in let v = A.size in omega (arith, x, u, z, v) in
        let h = nearer_by n p w y l (λ k. casts_acked k (w p).queued T) 0 (cast_left (pending_of y.state.peers) (pending_of s.peers) (casts_for n w p y) (casts_to n w p) (n - 1) n more c (omega (arith, l))) in
        record {
          distance = omega (arith, h);
          expects = λ _. omega (arith, own);
          answer = ap (λ fs. slice_get ((w p).wire a ++ (fs ++ data_frames s (Some (Ack T)) a)) (length ((w p).wire a))) (got_here a (e + 1))
              ∙ (at_end ((w p).wire a) (data_frames s (Some (Ack T)) a) (Got (e + 1)) ∙ ap (λ z. Some (Got z)) (sym own));
        }

    -- a frame of the wire
    pub took : (i : ℕ) (body : Body) (op : Op) → slice_get (w a).queued i ≡ Some body → Took n p a i w (after_result (w p) op (taken s a (Numbered i body)))
    took i body op at = cond_both (i == e) (accepted s a body) (quiet s (got_frames a e)) (λ r. Took n p a i w (after_result (w p) op r))
        (λ b. let q = eqb-true i e b in subst (λ j. Took n p a j w (after_result (w p) op (accepted s a body))) (sym q) (accepts_body body op (ap (slice_get (w a).queued) (sym q) ∙ at)))
        (λ b. passed_by i op (eqb-false i e b))

    pub counted : (count : ℕ) (op : Op) → Counted n p a count w (after_result (w p) op (taken s a (Got count)))
    counted count op =
        let y = after_result (w p) op (taken s a (Got count)) in
        let old = peer_at s a in
        let entry : Peer = record old { first = max old.first count; pending = drop (count - old.first) old.pending } in
        let here : peer_at y.state a ≡ entry = get_or-set_same s.peers a entry no_peer in_peers in
        let there : (r : ℕ) → (r ≡ a → ⊥) → peer_at y.state r ≡ peer_at s r = λ r other. get_or-set_other s.peers a r entry no_peer other in
        let set = pending_set s.peers a entry in_peers in
        let rest = length-drop (count - old.first) old.pending in
        let fall : ℕ = length old.pending - length (drop (count - old.first) old.pending) in
        let pending : pending_of y.state.peers + fall ≡ pending_of s.peers = omega (arith, set, rest) in
        let c = casts_kept n p w y (λ q _ _. elim (cases_eq q a) [
          | inl g ↦ ap (λ r. (peer_at y.state r).expected) g ∙ (ap (λ (z : Peer). z.expected) here ∙ ap (λ r. (peer_at s r).expected) (sym g))
          | inr other ↦ ap (λ (z : Peer). z.expected) (there q other)
        ]) in
        record {
          fall = fall;
          pending = pending;
          distance = nearer_by n p w y l (none_queued (w p) y.queued refl) fall (sums (pending_of y.state.peers) (pending_of s.peers) (casts_for n w p y) (casts_to n w p) (n - 1) fall pending c);
          enough = λ k within most. omega (arith, rest, within, most);
          wires = λ r. append-nil ((w p).wire r);
          links = λ r other. ap (λ (z : Peer). cond (r == s.me) [] (numbered_from z.first (take MOST_RESENT z.pending))) (there r other);
        }
      where
        sums : (x y c d m fall : ℕ) → x + fall ≡ y → c ≡ d → x + c * m + fall ≡ y + d * m
        sums x y c d m fall e f = let g = ap (λ z. z * m) f in omega (arith, e, g)
