-- An accepted body keeps what holds of all nodes.
use Rattle.std.proofs.Common.{◌≡◌, ℕ, ◌+◌, ◌<◌, ◌≤◌, ◌⊎◌, max, List, [], ◌∷◌, ◌++◌, length, drop, Some, refl, sym, ap}
use Rattle.std.proofs.Common.{◌∙◌, subst, inl, inr, arith}
use Rattle.std.specs.Prelude.{slice_get}
use Rattle.std.proofs.lemmas.Bool.{cases_eq}
use Rattle.std.proofs.lemmas.List.{append-nil, length-set, get_or-set_same, get_or-set_other}
use Rattle.reg_base.specs.declared.stamps.Stamp.{Stamp}
use Rattle.reg_base.specs.declared.memory.Op.{Op}
use Rattle.reg_base.specs.declared.stamps.Delivered.{Delivered}
use Rattle.reg_frames.specs.declared.bodies.Body.{Body}
use Rattle.reg_frames.specs.declared.bodies.Body.TheVariants.{Cast, Ack}
use Rattle.reg_frames.specs.declared.bodies.Frame.{Frame}
use Rattle.reg_frames.specs.declared.bodies.Frame.TheVariants.{Numbered, Got}
use Rattle.reg_base.specs.Order.{Below, AtMost, In, Rising, insert}
use Rattle.reg_process.specs.Process.{State, Peer, no_peer, peer_at, seen_at, stamp_at, cast_at, time_of, data_frames}
use Rattle.reg_process.specs.Process.{got_frames, both_frames, accepts, queues}
use Rattle.reg_world.specs.Nodes.{Said, Node, Nodes, put}
use Rattle.reg_base.proofs.Orders.{below_or, cases_stamps}
use Rattle.reg_base.proofs.Lists.{in_left, in_right, in_cases, in_insert, insert_new, insert_old, rising_insert, Apart}
use Rattle.reg_process.proofs.Peers.{queue_seen, queue_expected, length-queue, clear_down}
use Rattle.reg_world.proofs.one_order.Local.{Before, before_of}
use Rattle.reg_world.proofs.one_order.Links.{Sent, sent_same, sent_more, link_sends, link_accepts}
use Rattle.reg_world.proofs.one_order.Worlds.{Known, Inv, LinkOf, queues_of, count_of, count_own, count_other}
use Rattle.reg_world.proofs.one_order.Acts.{Kept, Adds, known_same, known_more, queue_forth}
use Rattle.reg_world.proofs.one_order.Frames.{data_no_got, got_no_numbered, got_count}
use Rattle.reg_world.proofs.one_order.NodeEvents.{put_same, put_other, loud_node, loud_kept, grown, last_own}
use Rattle.reg_world.proofs.one_order.Casting.{queue_sends, queue_receives, own_counts}

-- what the entries are after a body of time t from a
pub record Accepted (a t : ℕ) (s s1 : State) : Type 0 where
  pub me : s1.me ≡ s.me
  pub size : length s1.peers ≡ length s.peers
  pub clock : s1.clock ≡ max s.clock t + 1
  pub seen_same : seen_at s1 a ≡ t
  pub seen_other : (r : ℕ) → (r ≡ a → ⊥) → seen_at s1 r ≡ seen_at s r
  pub expected_same : (peer_at s1 a).expected ≡ (peer_at s a).expected + 1
  pub expected_other : (r : ℕ) → (r ≡ a → ⊥) → (peer_at s1 r).expected ≡ (peer_at s r).expected

new_peer : State → ℕ → ℕ → Peer
new_peer s a t = record (peer_at s a) { seen = t; expected = (peer_at s a).expected + 1 }

set_here : (s : State) (a t : ℕ) → a < length s.peers → peer_at (accepts a t s) a ≡ new_peer s a t
unfolding new_peer
set_here s a t l =
    get_or-set_same s.peers a (record (peer_at s a) { seen = t; expected = (peer_at s a).expected + 1 }) no_peer l

set_there : (s : State) (a t r : ℕ) → (r ≡ a → ⊥) → peer_at (accepts a t s) r ≡ peer_at s r
set_there s a t r ne =
    get_or-set_other s.peers a r (record (peer_at s a) { seen = t; expected = (peer_at s a).expected + 1 }) no_peer ne

pub accepts_is : (s : State) (a t : ℕ) → a < length s.peers → Accepted a t s (accepts a t s)
unfolding new_peer
accepts_is s a t l = record {
  me = refl;
  size = length-set s.peers a (record (peer_at s a) { seen = t; expected = (peer_at s a).expected + 1 });
  clock = refl;
  seen_same = ap (λ (q : Peer). q.seen) (set_here s a t l);
  seen_other = λ r ne. ap (λ (q : Peer). q.seen) (set_there s a t r ne);
  expected_same = ap (λ (q : Peer). q.expected) (set_here s a t l);
  expected_other = λ r ne. ap (λ (q : Peer). q.expected) (set_there s a t r ne);
}

-- the outbox stays
pub accepts_first : (s : State) (a t : ℕ) → a < length s.peers → (b : ℕ)
    → (peer_at (accepts a t s) b).first ≡ (peer_at s b).first
unfolding new_peer
accepts_first s a t l b = elim (cases_eq b a) [
  | inl e ↦ ap (λ r. (peer_at (accepts a t s) r).first) e ∙ (ap (λ (q : Peer). q.first) (set_here s a t l) ∙ ap (λ r. (peer_at s r).first) (sym e))
  | inr ne ↦ ap (λ (q : Peer). q.first) (set_there s a t b ne)
]

pub accepts_pending : (s : State) (a t : ℕ) → a < length s.peers → (b : ℕ)
    → (peer_at (accepts a t s) b).pending ≡ (peer_at s b).pending
unfolding new_peer
accepts_pending s a t l b = elim (cases_eq b a) [
  | inl e ↦ ap (λ r. (peer_at (accepts a t s) r).pending) e ∙ (ap (λ (q : Peer). q.pending) (set_here s a t l) ∙ ap (λ r. (peer_at s r).pending) (sym e))
  | inr ne ↦ ap (λ (q : Peer). q.pending) (set_there s a t b ne)
]

time_at_most : (t u p : ℕ) → AtMost (stamp_at t p) (stamp_at u p) → t ≤ u
time_at_most t u p h = grind arith

module _ (n registers k : ℕ) (w : Nodes) (I : Inv n registers k w) (p : ℕ) (l : p < n) (a : ℕ) (la : a < n) (ne : a ≡ p → ⊥) (body : Body) (next : slice_get (w a).queued (peer_at (w p).state a).expected ≡ Some body) where
  in_peers : a < length (w p).state.peers
  in_peers = let z = (I.local p l).size in omega (arith, z, la)

  later : seen_at (w p).state a < time_of body
  later = (I.link a p la l ne).future (peer_at (w p).state a).expected body next (omega arith)

  sent_before : time_of body ≤ k
  sent_before = let x = (I.sent a la).past (peer_at (w p).state a).expected body next in let y = I.clocks a la in omega (arith, x, y)

  -- a cast of the body's stamp is above the list of deliveries, and apart from what is held
  new_above : (c o : Delivered) → c.stamp.time ≡ time_of body → c.stamp.process ≡ a → In o (w p).deliveries → Below o.stamp c.stamp
  new_above c o e f i = elim (below_or o.stamp c.stamp) [
    | inl b ↦ b
    | inr b ↦
        let L = I.local p l in
        let h = clear_down (w p).state c.stamp o.stamp b (L.clear o i) a in_peers (λ q. ne (q ∙ L.me)) in
        let g = time_at_most c.stamp.time (seen_at (w p).state a) a (subst (λ r. AtMost (stamp_at c.stamp.time r) (stamp_at (seen_at (w p).state a) a)) f h) in
        absurd (omega (arith, g, e, later))
  ]

  new_apart : (c : Delivered) → c.stamp.time ≡ time_of body → c.stamp.process ≡ a → Apart c (w p).state.held
  new_apart c e f d h = elim (cases_stamps d.stamp c.stamp) [
    | inl q ↦
        let r = (I.known p l).sound d (in_right d (w p).deliveries (w p).state.held h) in
        let at_a : d.stamp.process ≡ a = ap (λ (z : Stamp). z.process) q ∙ f in
        let i = r.1.0 in
        let within : i < (peer_at (w p).state a).expected = let x = r.1.1 in let y = ap (count_of (w p) p) at_a in let z = count_other (w p) p a ne in omega (arith, x, y, z) in
        let at : slice_get (w a).queued i ≡ Some (Cast d.stamp.time d.op) = subst (λ r. slice_get (w r).queued i ≡ Some (Cast d.stamp.time d.op)) at_a r.1.2 in
        let old = (I.link a p la l ne).past i (Cast d.stamp.time d.op) at within in
        let same = ap (λ (z : Stamp). z.time) q in
        absurd (omega (arith, old, same, e, later))
    | inr b ↦ b
  ]

  accept_before : (s1 : State) → Accepted a (time_of body) (w p).state s1 → Rising s1.held → ((c : Delivered) → In c s1.held → In c (w p).state.held ⊎ ((c.stamp.time ≡ time_of body) × (c.stamp.process ≡ a))) → Before n p s1 (w p).deliveries
  accept_before s1 A r new =
      let L = I.local p l in
      before_of n p (w p).state s1 (w p).deliveries L A.me A.size (let z = A.clock in omega (arith, z))
      (λ r _ _. elim (cases_eq r a) [
        | inl e ↦ let x = A.seen_same in let y = ap (seen_at s1) e in let z = ap (seen_at (w p).state) e in omega (arith, x, y, z, later)
        | inr away ↦ let x = A.seen_other r away in omega (arith, x)
      ])
      (λ r m away. elim (cases_eq r a) [
        | inl e ↦ let x = A.seen_same in let y = ap (seen_at s1) e in let z = A.clock in omega (arith, x, y, z)
        | inr other ↦ let x = A.seen_other r other in let y = L.seen r m away in let z = A.clock in omega (arith, x, y, z)
      ])
      r
      (λ c i. elim (new c i) [
        | inl j ↦ inl j
        | inr j ↦ inr ((let x = j.0 in let z = A.clock in omega (arith, x, z)), (λ o m. new_above c o j.0 j.1 m))
      ])

  accept_receives : (s1 : State) (more : List Body) (frames : ℕ → List Frame) (replies : List Said) → Accepted a (time_of body) (w p).state s1 → ((r c : ℕ) → In (Got c) (frames r) → (c ≡ (peer_at (w p).state a).expected + 1) × (r ≡ a)) → (r : ℕ) → r < n → (r ≡ p → ⊥) → LinkOf r p (w r) (loud_node (w p) s1 more frames replies)
  accept_receives s1 more frames replies A got r m away = elim (cases_eq r a) [
    | inl e ↦ subst (λ r. LinkOf r p (w r) (loud_node (w p) s1 more frames replies)) (sym e)
        (link_accepts registers (w a).queued (w a).state.clock (peer_at (w a).state p) (peer_at (w p).state a) (peer_at s1 a) ((w a).wire p) ((w p).wire a) (frames a) body
        (I.link a p la l ne) (I.sent a la) next A.expected_same A.seen_same (λ c h. let x = (got a c h).0 in omega (arith, x)))
    | inr other ↦ queue_receives n registers k w I p l s1 more frames replies r m away (A.expected_other r other) (A.seen_other r other) (λ c h. other (got r c h).1)
  ]

  -- the counts with one more of a
  count1 : ℕ → ℕ
  count1 = put (count_of (w p) p) a (count_of (w p) p a + 1)

  count1_own : count1 p ≡ length (w p).queued
  unfolding count1
  count1_own = put_other (count_of (w p) p) a (count_of (w p) p a + 1) p (λ e. ne (sym e)) ∙ count_own (w p) p p refl

  count1_other : (s1 : State) → Accepted a (time_of body) (w p).state s1 → (r : ℕ) → (r ≡ p → ⊥) → (peer_at s1 r).expected ≡ count1 r
  unfolding count1
  count1_other s1 A r away = elim (cases_eq r a) [
    | inl e ↦ let x = A.expected_same in let y = ap (λ r. (peer_at s1 r).expected) e in let z = put_same (count_of (w p) p) a (count_of (w p) p a + 1) r e in let v = count_other (w p) p a ne in omega (arith, x, y, z, v)
    | inr other ↦ A.expected_other r other ∙ sym (put_other (count_of (w p) p) a (count_of (w p) p a + 1) r other ∙ count_other (w p) p r away)
  ]

  accept_known : (y : Node) (more : List Body) (casts : List Delivered) → y.queued ≡ (w p).queued ++ more → Adds ((w p).deliveries ++ (w p).state.held) casts a body → Known n casts count1 (queues_of (put w p y))
  unfolding count1
  accept_known y more casts g A =
      known_more n ((w p).deliveries ++ (w p).state.held) casts (count_of (w p) p) (queues_of (put w p y)) a body la (grown n registers k w I p l y more g)
      (ap (slice_get (queues_of (put w p y) a)) (count_other (w p) p a ne) ∙ queue_forth w p y more g a (peer_at (w p).state a).expected body next) A

-- an acknowledgement
pub ack_kept : (n registers k : ℕ) (w : Nodes) (I : Inv n registers k w) (p : ℕ) (l : p < n) (a : ℕ) (la : a < n)
    (ne : a ≡ p → ⊥) (t : ℕ) (replies : List Said)
    → slice_get (w a).queued (peer_at (w p).state a).expected ≡ Some (Ack t)
    → Kept n registers k p w
    (loud_node (w p) (accepts a t (w p).state) [] (got_frames a ((peer_at (w p).state a).expected + 1)) replies)
unfolding count1
ack_kept n registers k w I p l a la ne t replies next =
    let x = w p in
    let s = x.state in
    let s1 = accepts a t s in
    let frames = got_frames a ((peer_at s a).expected + 1) in
    let y = loud_node x s1 [] frames replies in
    let L = I.local p l in
    let inp : a < length s.peers = let z = L.size in omega (arith, z, la) in
    let A = accepts_is s a t inp in
    let queued_is = append-nil x.queued in
    let adds : Adds (x.deliveries ++ s.held) (x.deliveries ++ s1.held) a (Ack t) = record { old = λ c h. h; new = λ u o e. cc; only = λ c h. inl h } in
    loud_kept n registers k w I p l s1 [] frames replies
    (accept_before n registers k w I p l a la ne (Ack t) next s1 A L.held (λ c h. inl h))
    (subst (λ q. Sent registers q s1.clock) (sym queued_is) (sent_same registers x.queued s.clock s1.clock (I.sent p l) (omega arith)))
    (λ b lb away.
    let K = I.link p b l lb away in
    let first' = accepts_first s a t inp b in
    link_sends x.queued [] s.clock s1.clock (peer_at s b) (peer_at s1 b) (peer_at (w b).state p) (x.wire b) (frames b) ((w b).wire p) K (omega arith)
    (let z = K.acked in omega (arith, z, first'))
    (accepts_pending s a t inp b ∙ (K.pending ∙ (ap (λ f. drop f x.queued) (sym first') ∙ ap (drop (peer_at s1 b).first) (sym queued_is))))
    (λ i d h. absurd (got_no_numbered a ((peer_at s a).expected + 1) b i d h))
    (λ d h. absurd h)
    (λ i d h le m. absurd m))
    (accept_receives n registers k w I p l a la ne (Ack t) next s1 [] frames replies A (λ r c h. got_count a ((peer_at s a).expected + 1) r c h))
    (known_same n (x.deliveries ++ s1.held) (x.deliveries ++ s1.held) _ (count_of y p) (queues_of (put w p y))
    (accept_known n registers k w I p l a la ne (Ack t) next y [] (x.deliveries ++ s1.held) refl adds)
    (λ c h. h) (λ c h. h)
    (λ r _. elim (cases_eq r p) [
      | inl e ↦ count_own y p r e ∙ (ap length queued_is ∙ (sym (count1_own n registers k w I p l a la ne (Ack t) next) ∙ ap (count1 n registers k w I p l a la ne (Ack t) next) (sym e)))
      | inr away ↦ count_other y p r away ∙ count1_other n registers k w I p l a la ne (Ack t) next s1 A r away
    ]))
    (let z = I.clocks p l in let v = sent_before n registers k w I p l a la ne (Ack t) next in omega (arith, z, v))

-- a cast, with the acknowledgement that it causes
pub taken_cast_kept : (n registers k : ℕ) (w : Nodes) (I : Inv n registers k w) (p : ℕ) (l : p < n) (a : ℕ) (la : a < n)
    (ne : a ≡ p → ⊥) (t : ℕ) (op : Op) (replies : List Said)
    → slice_get (w a).queued (peer_at (w p).state a).expected ≡ Some (Cast t op)
    → Kept n registers k p w
    (loud_node (w p)
    (record (queues (max (w p).state.clock t + 1) (Ack (max (w p).state.clock t + 1))
    (accepts a t (w p).state)) { held = insert (cast_at t a op) (w p).state.held })
    (Ack (max (w p).state.clock t + 1) ∷ [])
    (both_frames (got_frames a ((peer_at (w p).state a).expected + 1))
    (data_frames (w p).state (Some (Ack (max (w p).state.clock t + 1)))))
    replies)
unfolding count1
taken_cast_kept n registers k w I p l a la ne t op replies next =
    let x = w p in
    let s = x.state in
    let s0 = accepts a t s in
    let T = max s.clock t + 1 in
    let body = Ack T in
    let c = cast_at t a op in
    let s1 : State = record (queues T body s0) { held = insert c s.held } in
    let frames = both_frames (got_frames a ((peer_at s a).expected + 1)) (data_frames s (Some body)) in
    let y = loud_node x s1 (body ∷ []) frames replies in
    let L = I.local p l in
    let inp : a < length s.peers = let z = L.size in omega (arith, z, la) in
    let A0 = accepts_is s a t inp in
    let A : Accepted a t s s1 = record {
      me = refl;
      size = length-queue body 0 s.me s0.peers ∙ A0.size;
      clock = refl;
      seen_same = queue_seen body 0 s.me s0.peers a ∙ A0.seen_same;
      seen_other = λ r away. queue_seen body 0 s.me s0.peers r ∙ A0.seen_other r away;
      expected_same = queue_expected body 0 s.me s0.peers a ∙ A0.expected_same;
      expected_other = λ r away. queue_expected body 0 s.me s0.peers r ∙ A0.expected_other r away;
    } in
    let adds : Adds (x.deliveries ++ s.held) (x.deliveries ++ s1.held) a (Cast t op) = record {
      old = λ d h. elim (in_cases d x.deliveries s.held h) [ inl i ↦ in_left d x.deliveries _ i | inr i ↦ in_right d x.deliveries _ (insert_old d c s.held i) ];
      new = λ u o e. in_right (cast_at u a o) x.deliveries _ (insert_new _ c s.held (same_new t u a op o e));
      only = λ d h. elim (in_cases d x.deliveries s1.held h) [
        | inl i ↦ inl (in_left d x.deliveries _ i)
        | inr i ↦ elim (in_insert d c s.held i) [
          | inl e ↦ inr (ap (λ (z : Delivered). Cast z.stamp.time z.op) (sym e), ap (λ (z : Delivered). z.stamp.process) e)
          | inr j ↦ inl (in_right d x.deliveries _ j)
        ]
      ];
    } in
    let acks : Adds (x.deliveries ++ s1.held) (x.deliveries ++ s1.held) p body = record { old = λ c h. h; new = λ u o e. cc; only = λ c h. inl h } in
    let own1 = count1_own n registers k w I p l a la ne (Cast t op) next in
    let counts = count1 n registers k w I p l a la ne (Cast t op) next in
    loud_kept n registers k w I p l s1 (body ∷ []) frames replies
    (accept_before n registers k w I p l a la ne (Cast t op) next s1 A
    (rising_insert c s.held L.held (new_apart n registers k w I p l a la ne (Cast t op) next c refl refl))
    (λ d h. elim (in_insert d c s.held h) [ inl e ↦ inr (ap (λ (z : Delivered). z.stamp.time) e, ap (λ (z : Delivered). z.stamp.process) e) | inr i ↦ inl i ]))
    (sent_more registers x.queued s.clock T body (I.sent p l) (omega arith) (omega arith) tt)
    (queue_sends n registers k w I p l s1 body frames replies s0.peers refl A0.size (accepts_first s a t inp) (accepts_pending s a t inp) (omega arith) (omega arith)
    (λ b i d h. elim (in_cases (Numbered i d) (got_frames a ((peer_at s a).expected + 1) b) (data_frames s (Some body) b) h) [ inl j ↦ absurd (got_no_numbered a ((peer_at s a).expected + 1) b i d j) | inr j ↦ j ])
    (λ b f j. in_right f (got_frames a ((peer_at s a).expected + 1) b) (data_frames s (Some body) b) j))
    (accept_receives n registers k w I p l a la ne (Cast t op) next s1 (body ∷ []) frames replies A
    (λ r g h. elim (in_cases (Got g) (got_frames a ((peer_at s a).expected + 1) r) (data_frames s (Some body) r) h) [ inl j ↦ got_count a ((peer_at s a).expected + 1) r g j | inr j ↦ absurd (data_no_got s body r g j) ]))
    (known_same n (x.deliveries ++ s1.held) (x.deliveries ++ s1.held) _ (count_of y p) (queues_of (put w p y))
    (known_more n (x.deliveries ++ s1.held) (x.deliveries ++ s1.held) counts (queues_of (put w p y)) p body l
    (accept_known n registers k w I p l a la ne (Cast t op) next y (body ∷ []) (x.deliveries ++ s1.held) refl adds)
    (ap (slice_get (queues_of (put w p y) p)) own1 ∙ last_own n registers k w I p l y body refl) acks)
    (λ d h. h) (λ d h. h)
    (λ r _. own_counts n registers k w I p l y body counts refl own1 (λ r away. count1_other n registers k w I p l a la ne (Cast t op) next s1 A r away) r))
    (let z = I.clocks p l in let v = sent_before n registers k w I p l a la ne (Cast t op) next in omega (arith, z, v))
  where
    same_new : (t u a : ℕ) (op o : Op) → Cast t op ≡ Cast u o → cast_at u a o ≡ cast_at t a op
    same_new t u a op o e =
        let f : t ≡ u = cc in
        let g : op ≡ o = cc in
        λ i. cast_at (sym f i) a (sym g i)
