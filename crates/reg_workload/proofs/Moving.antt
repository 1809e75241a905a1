-- What each kind of step does to the ends of the wires.
use Rattle.std.proofs.Common.{◌≡◌, ℕ, zero, suc, ◌+◌, ◌-◌, inl, inr, ◌<◌, ◌≢◌, max, Bool, true, false, List, [], ◌∷◌}
use Rattle.std.proofs.Common.{◌++◌, length, drop, Some, refl, sym, ap, ◌∙◌, arith, length-append}
use Rattle.std.specs.Prelude.{cond, ◌==◌, slice_index_or}
use Rattle.std.proofs.lemmas.Bool.{cond-false, ne_eqb, cond_both, cases_eq, eqb-true, eqb-false}
use Rattle.std.proofs.lemmas.List.{append-nil, get_or-set_same, get_or-set_other}
use Rattle.reg_base.specs.declared.memory.Op.{Op}
use Rattle.reg_frames.specs.declared.bodies.Body.{Body}
use Rattle.reg_frames.specs.declared.bodies.Body.TheVariants.{Cast, Ack}
use Rattle.reg_frames.specs.declared.bodies.Frame.{Frame}
use Rattle.reg_frames.specs.declared.bodies.Frame.TheVariants.{Numbered, Got}
use Rattle.reg_front.specs.declared.starts.Start.{Start}
use Rattle.reg_front.specs.declared.starts.Start.TheVariants.{Cast as Casts, CastAndAnswer as CastsAndAnswers}
use Rattle.reg_front.specs.declared.starts.Start.TheVariants.{Look as Looks, Hold as Holds}
use Rattle.reg_process.specs.Process.{State, Peer, no_peer, peer_at, next_of, queue_from, data_frames, got_frames}
use Rattle.reg_process.specs.Process.{accepts, called, taken, accepted, acknowledged, quiet}
use Rattle.reg_process.proofs.Peers.{queue_expected}
use Rattle.reg_world.specs.Nodes.{Node, Nodes, after_result}
use Rattle.reg_world.proofs.one_order.Worlds.{Inv}
use Rattle.reg_world.proofs.one_order.NodeEvents.{next_is}
use Rattle.reg_world.proofs.one_order.Accepting.{accepts_is, accepts_first}
use Rattle.reg_workload.specs.FairParts.{expected_after, counted_after}
use Rattle.reg_workload.proofs.Wires.{Moves, expected_both, counted_both, next_expected, other_expected, got_expected}
use Rattle.reg_workload.proofs.Wires.{got_counted, none_counted}

-- no frame taken, and one frame of one process
abbrev pub none_got : ℕ → List Frame
none_got b = []

abbrev pub one_got : ℕ → Frame → ℕ → List Frame
one_got a f b = cond (b == a) (f ∷ []) []

queue_first : (body : Body) (r me : ℕ) (ps : List Peer) (i : ℕ)
    → (slice_index_or (queue_from r me body ps) i no_peer).first ≡ (slice_index_or ps i no_peer).first
queue_first body r me [] i = refl
queue_first body r me (p ∷ ps) zero = cond_first (r == me) p body
  where
    cond_first : (b : Bool) (p : Peer) (body : Body) → (cond b p (record p { pending = p.pending ++ body ∷ [] })).first ≡ p.first
    cond_first true p body = refl
    cond_first false p body = refl
queue_first body r me (p ∷ ps) (suc i) = queue_first body (suc r) me ps i

module _ (n registers k : ℕ) (w : Nodes) (I : Inv n registers k w) (p : ℕ) (l : p < n) where
  abbrev s : State
  s = (w p).state

  abbrev queued : List Body
  queued = (w p).queued

  abbrev expects : ℕ → ℕ
  expects b = (peer_at s b).expected

  next_here : (b : ℕ) → b < n → p ≢ b → next_of (peer_at s b) ≡ length queued
  next_here b lb ne = next_is queued s.clock (peer_at s b) (peer_at (w b).state p) ((w p).wire b) ((w b).wire p) (I.link p b l lb ne)

  not_me : (b : ℕ) → p ≢ b → b ≡ s.me → ⊥
  not_me b ne e = ne (sym (e ∙ (I.local p l).me))

  pub data_is : (body : Body) (b : ℕ) → b < n → p ≢ b → data_frames s (Some body) b ≡ Numbered (length queued) body ∷ []
  data_is body b lb ne =
      cond-false (b == s.me) [] (Numbered (next_of (peer_at s b)) body ∷ []) (ne_eqb b s.me (not_me b ne)) ∙ ap (λ m. Numbered m body ∷ []) (next_here b lb ne)

  data_expected : (body : Body) (b : ℕ) → b < n → p ≢ b → expected_after (length queued) (data_frames s (Some body) b) ≡ length (queued ++ body ∷ [])
  data_expected body b lb ne =
      ap (expected_after (length queued)) (data_is body b lb ne) ∙ (next_expected (length queued) (length queued) body refl ∙ sym (length-append queued (body ∷ [])))

  data_counted : (c : ℕ) (body : Body) (b : ℕ) → b < n → p ≢ b → counted_after c (data_frames s (Some body) b) ≡ c
  data_counted c body b lb ne = ap (counted_after c) (data_is body b lb ne)

  nothing_more : length queued ≡ length (queued ++ [])
  nothing_more = sym (ap length (append-nil queued))

  cast_moves : (op : Op) (y : Node) (body : Body) → y.state.peers ≡ queue_from 0 s.me body s.peers → y.queued ≡ queued ++ body ∷ [] → ((b : ℕ) → y.wire b ≡ (w p).wire b ++ data_frames s (Some body) b) → Moves n p (w p) y (data_frames s (Some body)) none_got
  cast_moves op y body ps q wires =
      let same : (b : ℕ) → (peer_at y.state b).expected ≡ expects b = λ b. ap (λ z. (slice_index_or z b no_peer).expected) ps ∙ queue_expected body 0 s.me s.peers b in
      record {
        wire = λ b _ _. wires b;
        bodies = λ b lb ne. data_expected body b lb ne ∙ sym (ap length q);
        counts = λ b lb ne. data_counted (expects b) body b lb ne ∙ sym (same b);
        accepts = λ b _ _. sym (same b);
        knows = λ b _ _. sym (ap (λ z. (slice_index_or z b no_peer).first) ps ∙ queue_first body 0 s.me s.peers b);
      }

  pub called_moves : (op : Op) (st : Start)
      → Moves n p (w p) (after_result (w p) op (called s op st)) (called s op st).1.frames none_got
  called_moves op Casts = cast_moves op (after_result (w p) op (called s op Casts)) (Cast (s.clock + 1) op) refl refl (λ b. refl)
  called_moves op CastsAndAnswers = cast_moves op (after_result (w p) op (called s op CastsAndAnswers)) (Cast (s.clock + 1) op) refl refl (λ b. refl)
  called_moves op Looks = record { wire = λ b _ _. refl; bodies = λ b _ _. nothing_more; counts = λ b _ _. refl; accepts = λ b _ _. refl; knows = λ b _ _. refl }
  called_moves op Holds = record { wire = λ b _ _. refl; bodies = λ b _ _. nothing_more; counts = λ b _ _. refl; accepts = λ b _ _. refl; knows = λ b _ _. refl }

  module _ (a : ℕ) (la : a < n) where
    in_peers : a < length s.peers
    in_peers = let z = (I.local p l).size in omega (arith, z, la)

    -- a body that was expected
    accepted_moves : (i : ℕ) (body : Body) (y : Node) (frames : ℕ → List Frame) → i ≡ expects a → ((b : ℕ) → b ≡ a → (peer_at y.state b).expected ≡ expects b + 1) → ((b : ℕ) → (b ≡ a → ⊥) → (peer_at y.state b).expected ≡ expects b) → ((b : ℕ) → (peer_at y.state b).first ≡ (peer_at s b).first) → ((b : ℕ) → y.wire b ≡ (w p).wire b ++ frames b) → ((b : ℕ) → b < n → p ≢ b → expected_after (length queued) (frames b) ≡ length y.queued)
        → ((b c : ℕ) → b < n → p ≢ b → counted_after c (frames b) ≡ counted_after c (got_frames a (expects a + 1) b)) → Moves n p (w p) y frames (one_got a (Numbered i body))
    accepted_moves i body y frames is here there first wires bodies counts = record {
      wire = λ b _ _. wires b;
      bodies = bodies;
      counts = λ b lb ne. counts b (expects b) lb ne ∙ elim (cases_eq b a) [
        | inl e ↦ let u = got_counted (expects b) a (expects a + 1) b e in let v = ap expects e in let x = here b e in omega (arith, u, v, x)
        | inr other ↦ none_counted (expects b) a (expects a + 1) b other ∙ sym (there b other)
      ];
      accepts = λ b _ _. cond_both (b == a) (Numbered i body ∷ []) [] (λ fs. expected_after (expects b) fs ≡ (peer_at y.state b).expected)
          (λ e. let q = eqb-true b a e in next_expected (expects b) i body (is ∙ ap expects (sym q)) ∙ sym (here b q))
          (λ e. sym (there b (eqb-false b a e)));
      knows = λ b _ _. cond_both (b == a) (Numbered i body ∷ []) [] (λ fs. counted_after (peer_at s b).first fs ≡ (peer_at y.state b).first) (λ _. sym (first b)) (λ _. sym (first b));
    }

    body_moves : (op : Op) (i : ℕ) (body : Body) → i ≡ expects a → Moves n p (w p) (after_result (w p) op (accepted s a body)) (accepted s a body).1.frames (one_got a (Numbered i body))
    body_moves op i (Cast t o) is =
        let A = accepts_is s a t in_peers in
        let T = max s.clock t + 1 in
        let s0 = accepts a t s in
        accepted_moves i (Cast t o) (after_result (w p) op (accepted s a (Cast t o))) (accepted s a (Cast t o)).1.frames is
        (λ b e. queue_expected (Ack T) 0 s.me s0.peers b ∙ (ap (λ r. (peer_at s0 r).expected) e ∙ (A.expected_same ∙ ap (λ r. expects r + 1) (sym e))))
        (λ b other. queue_expected (Ack T) 0 s.me s0.peers b ∙ A.expected_other b other)
        (λ b. queue_first (Ack T) 0 s.me s0.peers b ∙ accepts_first s a t in_peers b)
        (λ b. refl)
        (λ b lb ne.
        expected_both (length queued) (got_frames a (expects a + 1) b) (data_frames s (Some (Ack T)) b)
        ∙ (ap (λ e. expected_after e (data_frames s (Some (Ack T)) b)) (got_expected (length queued) a (expects a + 1) b) ∙ data_expected (Ack T) b lb ne))
        (λ b c lb ne.
        counted_both c (got_frames a (expects a + 1) b) (data_frames s (Some (Ack T)) b)
        ∙ data_counted (counted_after c (got_frames a (expects a + 1) b)) (Ack T) b lb ne)
    body_moves op i (Ack t) is =
        let A = accepts_is s a t in_peers in
        let s0 = accepts a t s in
        accepted_moves i (Ack t) (after_result (w p) op (accepted s a (Ack t))) (accepted s a (Ack t)).1.frames is
        (λ b e. ap (λ r. (peer_at s0 r).expected) e ∙ (A.expected_same ∙ ap (λ r. expects r + 1) (sym e)))
        (λ b other. A.expected_other b other)
        (λ b. accepts_first s a t in_peers b)
        (λ b. refl)
        (λ b lb ne. got_expected (length queued) a (expects a + 1) b ∙ nothing_more)
        (λ b c lb ne. refl)

    known_moves : (op : Op) (i : ℕ) (body : Body) → (i ≡ expects a → ⊥) → Moves n p (w p) (after_result (w p) op (quiet s (got_frames a (expects a)))) (got_frames a (expects a)) (one_got a (Numbered i body))
    known_moves op i body away = record {
      wire = λ b _ _. refl;
      bodies = λ b _ _. got_expected (length queued) a (expects a) b ∙ nothing_more;
      counts = λ b _ _. elim (cases_eq b a) [
        | inl e ↦ let u = got_counted (expects b) a (expects a) b e in let v = ap expects e in omega (arith, u, v)
        | inr other ↦ none_counted (expects b) a (expects a) b other
      ];
      accepts = λ b _ _. cond_both (b == a) (Numbered i body ∷ []) [] (λ fs. expected_after (expects b) fs ≡ expects b)
          (λ e. let q = eqb-true b a e in other_expected (expects b) i body (λ h. away (h ∙ ap expects q)))
          (λ _. refl);
      knows = λ b _ _. cond_both (b == a) (Numbered i body ∷ []) [] (λ fs. counted_after (peer_at s b).first fs ≡ (peer_at s b).first) (λ _. refl) (λ _. refl);
    }

    count_moves : (op : Op) (count : ℕ) → Moves n p (w p) (after_result (w p) op (taken s a (Got count))) (taken s a (Got count)).1.frames (one_got a (Got count))
    count_moves op count =
        let s1 = acknowledged s a count in
        let entry : Peer = record (peer_at s a) { first = max (peer_at s a).first count; pending = drop (count - (peer_at s a).first) (peer_at s a).pending } in
        let here : peer_at s1 a ≡ entry = get_or-set_same s.peers a entry no_peer in_peers in
        let there : (r : ℕ) → (r ≡ a → ⊥) → peer_at s1 r ≡ peer_at s r = λ r other. get_or-set_other s.peers a r entry no_peer other in
        let expected : (b : ℕ) → expects b ≡ (peer_at s1 b).expected = λ b. elim (cases_eq b a) [
          | inl e ↦ ap expects e ∙ (sym (ap (λ (q : Peer). q.expected) here) ∙ ap (λ r. (peer_at s1 r).expected) (sym e))
          | inr other ↦ sym (ap (λ (q : Peer). q.expected) (there b other))
        ] in
        record {
          wire = λ b _ _. refl;
          bodies = λ b _ _. nothing_more;
          counts = λ b _ _. expected b;
          accepts = λ b _ _. cond_both (b == a) (Got count ∷ []) [] (λ fs. expected_after (expects b) fs ≡ (peer_at s1 b).expected) (λ _. expected b) (λ _. expected b);
          knows = λ b _ _. cond_both (b == a) (Got count ∷ []) [] (λ fs. counted_after (peer_at s b).first fs ≡ (peer_at s1 b).first)
              (λ e. let q = eqb-true b a e in ap (λ r. max (peer_at s r).first count) q ∙ (sym (ap (λ (q : Peer). q.first) here) ∙ ap (λ r. (peer_at s1 r).first) (sym q)))
              (λ e. sym (ap (λ (q : Peer). q.first) (there b (eqb-false b a e))));
        }

    pub taken_moves : (op : Op) (f : Frame) → Moves n p (w p) (after_result (w p) op (taken s a f)) (taken s a f).1.frames (one_got a f)
    taken_moves op (Numbered i body) =
        cond_both (i == expects a) (accepted s a body) (quiet s (got_frames a (expects a))) (λ r. Moves n p (w p) (after_result (w p) op r) r.1.frames (one_got a (Numbered i body)))
        (λ e. body_moves op i body (eqb-true i _ e))
        (λ e. known_moves op i body (eqb-false i _ e))
    taken_moves op (Got count) = count_moves op count
