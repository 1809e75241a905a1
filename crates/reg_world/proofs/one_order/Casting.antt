-- An own cast keeps what holds of all nodes.
use Rattle.std.proofs.Common.{◌≡◌, ℕ, ◌+◌, ◌<◌, ◌≤◌, List, [], ◌∷◌, ◌++◌, length, drop, Option, Some, refl, sym, ap}
use Rattle.std.proofs.Common.{◌∙◌, inl, inr, arith, length-append}
use Rattle.std.specs.Prelude.{slice_get, slice_index_or}
use Rattle.std.proofs.lemmas.Bool.{cases_eq}
use Rattle.std.proofs.lemmas.List.{drop-append-le}
use Rattle.reg_base.specs.declared.memory.Op.{Op}
use Rattle.reg_base.specs.declared.stamps.Delivered.{Delivered}
use Rattle.reg_frames.specs.declared.bodies.Body.{Body}
use Rattle.reg_frames.specs.declared.bodies.Body.TheVariants.{Cast}
use Rattle.reg_frames.specs.declared.bodies.Frame.{Frame}
use Rattle.reg_frames.specs.declared.bodies.Frame.TheVariants.{Numbered, Got}
use Rattle.reg_base.specs.Order.{In}
use Rattle.reg_process.specs.Process.{State, Peer, no_peer, peer_at, seen_at, cast_at, time_of, queue_from, data_frames}
use Rattle.reg_process.specs.Process.{Running, cast_made}
use Rattle.reg_world.specs.Nodes.{Said, Node, Nodes, put}
use Rattle.reg_base.proofs.Lists.{in_left, in_right, in_cases, in_insert, insert_new, insert_old, rising_insert, Apart}
use Rattle.reg_world.proofs.lists.Bodies.{place_last, place_within}
use Rattle.reg_process.proofs.Peers.{queue_other, queue_seen, queue_expected, length-queue}
use Rattle.reg_world.proofs.one_order.Local.{before_of}
use Rattle.reg_world.proofs.one_order.Links.{sent_more, link_sends, link_receives}
use Rattle.reg_world.proofs.one_order.Worlds.{Inv, LinkOf, queues_of, count_of, count_own, count_other}
use Rattle.reg_world.proofs.one_order.Acts.{Kept, Adds, known_same, known_more}
use Rattle.reg_world.proofs.one_order.Frames.{data_no_got, data_numbered, data_there}
use Rattle.reg_base.specs.Memory.{register_of}
use Rattle.reg_world.proofs.one_order.NodeEvents.{put_same, put_other, next_is, loud_node, loud_kept, grown, last_own}

module _ (n registers k : ℕ) (w : Nodes) (I : Inv n registers k w) (p : ℕ) (l : p < n) where
  -- the links on which a body goes out
  pub queue_sends : (s1 : State) (body : Body) (frames : ℕ → List Frame) (replies : List Said) (peers0 : List Peer)
      → s1.peers ≡ queue_from 0 (w p).state.me body peers0 → length peers0 ≡ length (w p).state.peers
      → ((b : ℕ) → (slice_index_or peers0 b no_peer).first ≡ (peer_at (w p).state b).first)
      → ((b : ℕ) → (slice_index_or peers0 b no_peer).pending ≡ (peer_at (w p).state b).pending)
      → (w p).state.clock < time_of body → time_of body ≤ s1.clock
      → ((b i : ℕ) (d : Body) → In (Numbered i d) (frames b)
      → In (Numbered i d) (data_frames (w p).state (Some body) b))
      → ((b : ℕ) (f : Frame) → In f (data_frames (w p).state (Some body) b) → In f (frames b)) → (b : ℕ) → b < n
      → (p ≡ b → ⊥) → LinkOf p b (loud_node (w p) s1 (body ∷ []) frames replies) (w b)
  queue_sends s1 body frames replies peers0 ps len first pending late clock num all b lb ne =
      let s = (w p).state in
      let Q = (w p).queued in
      let L = I.local p l in
      let K = I.link p b l lb ne in
      let was = slice_index_or peers0 b no_peer in
      let is : peer_at s1 b ≡ record was { pending = was.pending ++ body ∷ [] } =
      ap (λ ps. slice_index_or ps b no_peer) ps ∙ queue_other body 0 s.me peers0 b (let z = L.size in omega (arith, z, len)) (λ e. ne (sym L.me ∙ (sym e ∙ zero_add' b))) in
      let first' : (peer_at s1 b).first ≡ (peer_at s b).first = ap (λ (q : Peer). q.first) is ∙ first b in
      let short : (peer_at s b).first ≤ length Q = let x = K.within in let y = K.acked in omega (arith, x, y) in
      let pending' : (peer_at s1 b).pending ≡ drop (peer_at s1 b).first (Q ++ body ∷ []) =
      ap (λ (q : Peer). q.pending) is ∙ (ap (λ q. q ++ body ∷ []) (pending b ∙ K.pending) ∙ (sym (drop-append-le (peer_at s b).first Q (body ∷ []) short) ∙ ap (λ f. drop f (Q ++ body ∷ [])) (sym first'))) in
      link_sends Q (body ∷ []) s.clock s1.clock (peer_at s b) (peer_at s1 b) (peer_at (w b).state p) ((w p).wire b) (frames b) ((w b).wire p) K
      (omega arith) (let x = K.acked in omega (arith, x, first')) pending'
      (λ i d h.
      let r = data_numbered s body b i d (num b i d h) in
      let at : i ≡ length Q = r.0 ∙ next_is Q s.clock (peer_at s b) (peer_at (w b).state p) ((w p).wire b) ((w b).wire p) K in
      ap (slice_get (Q ++ body ∷ [])) at ∙ (place_last Q body ∙ ap Some (sym r.1)))
      (λ d h. elim h [ inl e ↦ let z = ap time_of e in omega (arith, z) | inr f ↦ absurd f ])
      (λ i d h le m.
      let within = place_within (Q ++ body ∷ []) i d h in
      let size = length-append Q (body ∷ []) in
      let next = next_is Q s.clock (peer_at s b) (peer_at (w b).state p) ((w p).wire b) ((w b).wire p) K in
      all b (Numbered i d) (data_there s body b i d (λ e. ne (sym (e ∙ L.me))) (omega (arith, within, size, le, next)) (elim m [ inl e ↦ e | inr f ↦ absurd f ])))
    where
      zero_add' : (b : ℕ) → 0 + b ≡ b
      zero_add' b = omega arith

  -- the links on which nothing is accepted
  pub queue_receives : (s1 : State) (more : List Body) (frames : ℕ → List Frame) (replies : List Said) (a : ℕ) → a < n
      → (a ≡ p → ⊥) → (peer_at s1 a).expected ≡ (peer_at (w p).state a).expected → seen_at s1 a ≡ seen_at (w p).state a
      → ((c : ℕ) → In (Got c) (frames a) → ⊥) → LinkOf a p (w a) (loud_node (w p) s1 more frames replies)
  queue_receives s1 more frames replies a la ne e f got =
      link_receives (w a).queued (w a).state.clock (peer_at (w a).state p) (peer_at (w p).state a) (peer_at s1 a) ((w a).wire p) ((w p).wire a) (frames a) (I.link a p la l ne) e f (λ c h. absurd (got c h))

  -- the counts where one own body is more
  pub own_counts : (y : Node) (body : Body) (count : ℕ → ℕ) → y.queued ≡ (w p).queued ++ body ∷ []
      → count p ≡ length (w p).queued → ((r : ℕ) → (r ≡ p → ⊥) → (peer_at y.state r).expected ≡ count r) → (r : ℕ)
      → count_of y p r ≡ put count p (count p + 1) r
  own_counts y body count g own other r = elim (cases_eq r p) [
    | inl e ↦ let a = count_own y p r e in let b = ap length g in let c = length-append (w p).queued (body ∷ []) in let d = put_same count p (count p + 1) r e in omega (arith, a, b, c, d, own)
    | inr ne ↦ count_other y p r ne ∙ (other r ne ∙ sym (put_other count p (count p + 1) r ne))
  ]

  pub cast_kept : (op : Op) (running : Option Running) (replies : List Said) → register_of op < registers
      → Kept n registers k p w
      (loud_node (w p) (cast_made (w p).state op running) (Cast ((w p).state.clock + 1) op ∷ [])
      (data_frames (w p).state (Some (Cast ((w p).state.clock + 1) op))) replies)
  cast_kept op running replies reg =
      let x = w p in
      let s = x.state in
      let t = s.clock + 1 in
      let body = Cast t op in
      let s1 = cast_made s op running in
      let frames = data_frames s (Some body) in
      let y = loud_node x s1 (body ∷ []) frames replies in
      let c = cast_at t s.me op in
      let L = I.local p l in
      let seen' : (r : ℕ) → seen_at s1 r ≡ seen_at s r = λ r. queue_seen body 0 s.me s.peers r in
      let expected' : (r : ℕ) → (peer_at s1 r).expected ≡ (peer_at s r).expected = λ r. queue_expected body 0 s.me s.peers r in
      let apart : Apart c s.held = λ d h. let z = L.held_times d h in inl (inl (omega (arith, z))) in
      let adds : Adds (x.deliveries ++ s.held) (x.deliveries ++ s1.held) p body = record {
        old = λ d h. elim (in_cases d x.deliveries s.held h) [ inl i ↦ in_left d x.deliveries _ i | inr i ↦ in_right d x.deliveries _ (insert_old d c s.held i) ];
        new = λ u o e. in_right (cast_at u p o) x.deliveries _ (insert_new _ c s.held (same_new u o e));
        only = λ d h. elim (in_cases d x.deliveries s1.held h) [
          | inl i ↦ inl (in_left d x.deliveries _ i)
          | inr i ↦ elim (in_insert d c s.held i) [
            | inl e ↦ inr (ap (λ (z : Delivered). Cast z.stamp.time z.op) (sym e), ap (λ (z : Delivered). z.stamp.process) e ∙ L.me)
            | inr j ↦ inl (in_right d x.deliveries _ j)
          ]
        ];
      } in
      loud_kept n registers k w I p l s1 (body ∷ []) frames replies
      (before_of n p s s1 x.deliveries L refl (length-queue body 0 s.me s.peers) (omega arith)
      (λ r _ _. let z = seen' r in omega (arith, z))
      (λ r m ne. let z = seen' r in let v = L.seen r m ne in omega (arith, z, v))
      (rising_insert c s.held L.held apart)
      (λ d h. elim (in_insert d c s.held h) [
        | inl e ↦ inr ((let z = ap (λ (q : Delivered). q.stamp.time) e in omega (arith, z)), (λ o i. let z = ap (λ (q : Delivered). q.stamp.time) e in let v = L.delivery_times o i in inl (omega (arith, z, v))))
        | inr i ↦ inl i
      ]))
      (sent_more registers x.queued s.clock t body (I.sent p l) (omega arith) (omega arith) reg)
      (queue_sends s1 body frames replies s.peers refl refl (λ b. refl) (λ b. refl) (omega arith) (omega arith) (λ b i d h. h) (λ b f h. h))
      (λ a la ne. queue_receives s1 (body ∷ []) frames replies a la ne (expected' a) (seen' a) (λ g. data_no_got s body a g))
      (known_same n (x.deliveries ++ s1.held) (x.deliveries ++ s1.held) _ (count_of y p) (queues_of (put w p y))
      (known_more n (x.deliveries ++ s.held) (x.deliveries ++ s1.held) (count_of x p) (queues_of (put w p y)) p body l (grown n registers k w I p l y (body ∷ []) refl)
      (ap (slice_get (queues_of (put w p y) p)) (count_own x p p refl) ∙ last_own n registers k w I p l y body refl) adds)
      (λ d h. h) (λ d h. h)
      (λ r _. own_counts y body (count_of x p) refl (count_own x p p refl) (λ r ne. expected' r ∙ sym (count_other x p r ne)) r))
      (let z = I.clocks p l in omega (arith, z))
    where
      same_new : (u : ℕ) (o : Op) → Cast ((w p).state.clock + 1) op ≡ Cast u o → cast_at u p o ≡ cast_at ((w p).state.clock + 1) (w p).state.me op
      same_new u o e =
          let f : (w p).state.clock + 1 ≡ u = cc in
          let g : op ≡ o = cc in
          λ i. cast_at (sym f i) (sym (I.local p l).me i) (sym g i)
