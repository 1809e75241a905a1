-- Each kind of event keeps what holds of all nodes.
use Rattle.std.proofs.Common.{◌≡◌, ℕ, suc, ◌<◌, ◌≤◌, List, [], ◌∷◌, ◌++◌, length, drop, Some, refl, sym, ap, ◌∙◌, subst}
use Rattle.std.proofs.Common.{arith, length-drop}
use Rattle.std.specs.Prelude.{slice_get, cond, ◌==◌}
use Rattle.std.proofs.lemmas.Bool.{cond-true, cond-false, eq-eqb, ne_eqb}
use Rattle.std.proofs.lemmas.List.{append-nil}
use Rattle.reg_frames.specs.declared.bodies.Body.{Body}
use Rattle.reg_frames.specs.declared.bodies.Frame.{Frame}
use Rattle.reg_frames.specs.declared.bodies.Frame.TheVariants.{Numbered, Got}
use Rattle.reg_base.specs.Order.{In}
use Rattle.reg_process.specs.Process.{State, Peer, peer_at, seen_at, next_of, clear_casts, delivered_state}
use Rattle.reg_world.specs.Nodes.{Said, Node, Nodes, put}
use Rattle.reg_world.proofs.lists.Bodies.{place_last}
use Rattle.reg_world.proofs.one_order.Local.{Local, Before, delivers, delivery_keeps, delivery_adds_none, local_same}
use Rattle.reg_world.proofs.one_order.Links.{Sent, Link, sent_same, link_sends, link_receives}
use Rattle.reg_world.proofs.one_order.Worlds.{Known, Inv, LinkOf, queues_of, count_of}
use Rattle.reg_world.proofs.one_order.Acts.{Kept, known_same, known_grown, counts_within, queue_forth, queue_back}

pub put_same : {A : Type 0} (at : ℕ → A) (p : ℕ) (x : A) (j : ℕ) → j ≡ p → put at p x j ≡ x
put_same at p x j e = cond-true (j == p) x (at j) (eq-eqb j p e)

pub put_other : {A : Type 0} (at : ℕ → A) (p : ℕ) (x : A) (j : ℕ) → (j ≡ p → ⊥) → put at p x j ≡ at j
put_other at p x j ne = cond-false (j == p) x (at j) (ne_eqb j p ne)

-- the outbox's next number is the length of the queue
pub next_is : (queued : List Body) (clock : ℕ) (outbox inbox : Peer) (forth back : List Frame)
    → Link queued clock outbox inbox forth back → next_of outbox ≡ length queued
next_is queued clock outbox inbox forth back L = let e = ap length L.pending in let d = length-drop outbox.first queued in let a = L.within in let b = L.acked in omega (arith, e, d, a, b)

-- the same process, but for its running operation, its count of calls and what it keeps of its outboxes
pub record Same (s s' : State) : Type 0 where
  pub me : s'.me ≡ s.me
  pub clock : s'.clock ≡ s.clock
  pub held : s'.held ≡ s.held
  pub size : length s'.peers ≡ length s.peers
  pub seen : (r : ℕ) → seen_at s' r ≡ seen_at s r
  pub expected : (r : ℕ) → (peer_at s' r).expected ≡ (peer_at s r).expected

abbrev pub quiet_node : Node → State → (ℕ → List Frame) → List Said → Node
quiet_node x s' frames replies = record { state = s'; deliveries = x.deliveries ++ []; queued = x.queued ++ []; wire = λ b. x.wire b ++ frames b; replies = replies }

abbrev pub loud_node : Node → State → List Body → (ℕ → List Frame) → List Said → Node
loud_node x s1 more frames replies = record { state = delivered_state s1; deliveries = x.deliveries ++ clear_casts s1; queued = x.queued ++ more; wire = λ b. x.wire b ++ frames b; replies = replies }

module _ (n registers k : ℕ) (w : Nodes) (I : Inv n registers k w) (p : ℕ) (l : p < n) where
  pub quiet_kept : (s' : State) (frames : ℕ → List Frame) (replies : List Said) → Same (w p).state s'
      → ((b : ℕ) → b < n → (p ≡ b → ⊥)
      → ((peer_at s' b).first ≤ (peer_at (w b).state p).expected)
      × ((peer_at s' b).pending ≡ drop (peer_at s' b).first (w p).queued))
      → ((b : ℕ) → b < n → (p ≡ b → ⊥) → (i : ℕ) (d : Body) → In (Numbered i d) (frames b)
      → slice_get (w p).queued i ≡ Some d)
      → ((a : ℕ) → a < n → (a ≡ p → ⊥) → (c : ℕ) → In (Got c) (frames a) → c ≤ (peer_at (w p).state a).expected)
      → Kept n registers k p w (quiet_node (w p) s' frames replies)
  quiet_kept s' frames replies S out num got =
      let x = w p in
      let y = quiet_node x s' frames replies in
      let queued_is = append-nil x.queued in
      record {
        local = subst (λ f. Local n p s' f) (sym (append-nil x.deliveries)) (local_same n p x.state s' x.deliveries (I.local p l) S.me S.size S.clock S.held S.seen);
        sent = subst (λ q. Sent registers q s'.clock) (sym queued_is) (sent_same registers x.queued x.state.clock s'.clock (I.sent p l) (let z = S.clock in omega (arith, z)));
        sends = λ b lb ne. link_sends x.queued [] x.state.clock s'.clock (peer_at x.state b) (peer_at s' b) (peer_at (w b).state p) (x.wire b) (frames b) ((w b).wire p)
            (I.link p b l lb ne) (let z = S.clock in omega (arith, z)) (out b lb ne).0
            (subst (λ q. (peer_at s' b).pending ≡ drop (peer_at s' b).first q) (sym queued_is) (out b lb ne).1)
            (λ i d h. subst (λ q. slice_get q i ≡ Some d) (sym queued_is) (num b lb ne i d h))
            (λ d h. absurd h)
            (λ i d h le m. absurd m);
        receives = λ a la ne. link_receives (w a).queued (w a).state.clock (peer_at (w a).state p) (peer_at x.state a) (peer_at s' a) ((w a).wire p) (x.wire a) (frames a)
            (I.link a p la l ne) (S.expected a) (S.seen a) (got a la ne);
        known = known_same n (x.deliveries ++ x.state.held) _ (count_of x p) (count_of y p) (queues_of (put w p y))
            (known_grown n (x.deliveries ++ x.state.held) (count_of x p) (queues_of w) (queues_of (put w p y)) (I.known p l) (λ r m. counts_within n registers k w I p r l m) (queue_forth w p y [] refl) (queue_back w p y [] refl))
            (λ c h. subst (λ f. In c (f ++ s'.held)) (sym (append-nil x.deliveries)) (subst (λ h'. In c (x.deliveries ++ h')) (sym S.held) h))
            (λ c h. subst (λ h'. In c (x.deliveries ++ h')) S.held (subst (λ f. In c (f ++ s'.held)) (append-nil x.deliveries) h))
            (λ r _ i. cond (r == p) (length (queued_is i)) (S.expected r i));
        more = [];
        grows = refl;
        clock = let z = S.clock in let a = I.clocks p l in omega (arith, z, a);
      }

  -- what delivery follows
  pub loud_kept : (s1 : State) (more : List Body) (frames : ℕ → List Frame) (replies : List Said)
      → let y = loud_node (w p) s1 more frames replies in Before n p s1 (w p).deliveries
      → Sent registers ((w p).queued ++ more) s1.clock → ((b : ℕ) → b < n → (p ≡ b → ⊥) → LinkOf p b y (w b))
      → ((a : ℕ) → a < n → (a ≡ p → ⊥) → LinkOf a p (w a) y)
      → Known n ((w p).deliveries ++ s1.held) (count_of y p) (queues_of (put w p y)) → s1.clock ≤ suc k
      → Kept n registers k p w y
  loud_kept s1 more frames replies B S out inn K c = record {
    local = delivers n p s1 (w p).deliveries B;
    sent = S;
    sends = out;
    receives = inn;
    known = known_same n ((w p).deliveries ++ s1.held) _ _ _ _ K (delivery_keeps s1 (w p).deliveries) (delivery_adds_none s1 (w p).deliveries) (λ r _. refl);
    more = more;
    grows = refl;
    clock = c;
  }

  -- the casts known are the same after the queue grows
  pub grown : (y : Node) (more : List Body) → y.queued ≡ (w p).queued ++ more
      → Known n ((w p).deliveries ++ (w p).state.held) (count_of (w p) p) (queues_of (put w p y))
  grown y more g = known_grown n _ (count_of (w p) p) (queues_of w) (queues_of (put w p y)) (I.known p l) (λ r m. counts_within n registers k w I p r l m) (queue_forth w p y more g) (queue_back w p y more g)

  -- the own queue has the body at its end
  pub last_own : (y : Node) (body : Body) → y.queued ≡ (w p).queued ++ body ∷ []
      → slice_get (queues_of (put w p y) p) (length (w p).queued) ≡ Some body
  last_own y body g = ap (λ (z : Node). slice_get z.queued (length (w p).queued)) (put_same w p y p refl) ∙ (ap (λ q. slice_get q (length (w p).queued)) g ∙ place_last (w p).queued body)
