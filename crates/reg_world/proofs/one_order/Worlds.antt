-- What holds of all nodes together, and what follows for their deliveries.
use Rattle.std.proofs.Common.{◌≡◌, ℕ, ◌<◌, ◌≤◌, ◌⊎◌, List, ◌++◌, length, Some, sym, ap, ◌∙◌, subst, inl, inr, arith}
use Rattle.std.specs.Prelude.{slice_get, cond, ◌==◌}
use Rattle.std.proofs.lemmas.Bool.{cases_eq, cases_order, cond-true, cond-false, eq-eqb, ne_eqb}
use Rattle.reg_base.specs.declared.stamps.Stamp.{Stamp}
use Rattle.reg_base.specs.declared.memory.Op.{Op}
use Rattle.reg_base.specs.declared.stamps.Delivered.{Delivered}
use Rattle.reg_frames.specs.declared.bodies.Body.{Body}
use Rattle.reg_frames.specs.declared.bodies.Body.TheVariants.{Cast}
use Rattle.reg_base.specs.Order.{Below, AtMost, In, IsPrefixOf}
use Rattle.reg_process.specs.Process.{IsClear, peer_at, seen_at, stamp_at, cast_at}
use Rattle.reg_world.specs.Nodes.{Node, Nodes}
use Rattle.reg_world.specs.Laws.{IsMade}
use Rattle.reg_base.proofs.Orders.{below_or, same_cast}
use Rattle.reg_base.proofs.Lists.{in_left, in_right, in_cases, Closed, prefixes}
use Rattle.reg_world.proofs.lists.Bodies.{place_within}
use Rattle.reg_process.proofs.Peers.{clear_below, clear_down}
use Rattle.reg_world.proofs.one_order.Local.{Local}
use Rattle.reg_world.proofs.one_order.Links.{Sent, Link}

-- how many bodies of r node q knows: all its own, and those that it accepted of the others
abbrev pub count_of : Node → ℕ → ℕ → ℕ
count_of x q r = cond (r == q) (length x.queued) (peer_at x.state r).expected

-- The casts are those among the first bodies of each process.
pub record Known (n : ℕ) (casts : List Delivered) (count : ℕ → ℕ) (queued : ℕ → List Body) : Type 0 where
  pub sound : (c : Delivered) → In c casts
      → (c.stamp.process < n)
      × ((i : ℕ) × (i < count c.stamp.process) × (slice_get (queued c.stamp.process) i ≡ Some (Cast c.stamp.time c.op)))
  pub complete : (r i t : ℕ) (op : Op) → r < n → i < count r → slice_get (queued r) i ≡ Some (Cast t op)
      → In (cast_at t r op) casts

abbrev pub queues_of : Nodes → ℕ → List Body
queues_of w r = (w r).queued

abbrev pub LinkOf : ℕ → ℕ → Node → Node → Type 0
LinkOf a b x y = Link x.queued x.state.clock (peer_at x.state b) (peer_at y.state a) (x.wire b) (y.wire a)

-- k bounds the clocks
pub record Inv (n registers k : ℕ) (w : Nodes) : Type 0 where
  pub local : (p : ℕ) → p < n → Local n p (w p).state (w p).deliveries
  pub sent : (p : ℕ) → p < n → Sent registers (w p).queued (w p).state.clock
  pub link : (a b : ℕ) → a < n → b < n → (a ≡ b → ⊥) → LinkOf a b (w a) (w b)
  pub known : (q : ℕ) → q < n → Known n ((w q).deliveries ++ (w q).state.held) (count_of (w q) q) (queues_of w)
  pub clocks : (p : ℕ) → p < n → (w p).state.clock ≤ k

pub count_own : (x : Node) (q r : ℕ) → r ≡ q → count_of x q r ≡ length x.queued
count_own x q r e = cond-true (r == q) (length x.queued) (peer_at x.state r).expected (eq-eqb r q e)

pub count_other : (x : Node) (q r : ℕ) → (r ≡ q → ⊥) → count_of x q r ≡ (peer_at x.state r).expected
count_other x q r ne = cond-false (r == q) (length x.queued) (peer_at x.state r).expected (ne_eqb r q ne)

time_at_most : (t u p : ℕ) → AtMost (stamp_at t p) (stamp_at u p) → t ≤ u
time_at_most t u p h = grind arith

module _ (n registers k : ℕ) (w : Nodes) (I : Inv n registers k w) where
  -- a cast that is clear at q was delivered there
  pub clear_is_delivered : (q : ℕ) → q < n → (c : Delivered) → IsMade n w c → IsClear (w q).state c.stamp
      → In c (w q).deliveries
  clear_is_delivered q l c m h =
      let p = c.stamp.process in
      let L = I.local q l in
      let within : m.1.0 < count_of (w q) q p = elim (cases_eq p q) [
        | inl e ↦ let a = place_within (w p).queued m.1.0 (Cast c.stamp.time c.op) m.1.1 in let b = count_own (w q) q p e in let f = ap (λ r. length (w r).queued) e in omega (arith, a, b, f)
        | inr ne ↦ elim (cases_lt' m.1.0 (peer_at (w q).state p).expected) [
          | inl a ↦ let b = count_other (w q) q p ne in omega (arith, a, b)
          | inr a ↦
              let f = (I.link p q m.0 l ne).future m.1.0 (Cast c.stamp.time c.op) m.1.1 a in
              let s = L.size in
              let g = time_at_most c.stamp.time (seen_at (w q).state p) p (h p (let z = m.0 in omega (arith, s, z)) (λ e. ne (e ∙ L.me))) in
              absurd (omega (arith, f, g))
        ]
      ] in
      elim (in_cases c (w q).deliveries (w q).state.held ((I.known q l).complete p m.1.0 c.stamp.time c.op m.0 within m.1.1)) [
        | inl i ↦ i
        | inr i ↦ absurd (L.waits c i h)
      ]
    where
      cases_lt' : (a b : ℕ) → (a < b) ⊎ (b ≤ a)
      cases_lt' a b = grind arith

  pub delivered_made : (q : ℕ) → q < n → (c : Delivered) → In c (w q).deliveries → IsMade n w c
  delivered_made q l c h = let r = (I.known q l).sound c (in_left c (w q).deliveries (w q).state.held h) in (r.0, (r.1.0, r.1.2))

  pub held_made : (q : ℕ) → q < n → (c : Delivered) → In c (w q).state.held → IsMade n w c
  held_made q l c h = let r = (I.known q l).sound c (in_right c (w q).deliveries (w q).state.held h) in (r.0, (r.1.0, r.1.2))

  -- a cast that q hasn't delivered stands above all that it has
  pub undelivered_above : (q : ℕ) → q < n → (c d : Delivered) → IsMade n w c → (In c (w q).deliveries → ⊥)
      → In d (w q).deliveries → Below d.stamp c.stamp
  undelivered_above q l c d m ne h = elim (below_or d.stamp c.stamp) [
    | inl b ↦ b
    | inr a ↦ absurd (ne (clear_is_delivered q l c m (clear_down' a)))
  ]
    where
      clear_down' : AtMost c.stamp d.stamp → IsClear (w q).state c.stamp
      clear_down' a = clear_down (w q).state c.stamp d.stamp a ((I.local q l).clear d h)

  pub deliveries_closed : (p q : ℕ) → p < n → q < n → Closed (w p).deliveries (w q).deliveries
  deliveries_closed p q l m c d h k b = clear_is_delivered q m c (delivered_made p l c h) (clear_below (w q).state c.stamp d.stamp b ((I.local q m).clear d k))

  -- a stamp tells the cast
  pub made_once : (c d : Delivered) → IsMade n w c → IsMade n w d → c.stamp ≡ d.stamp → c ≡ d
  made_once c d m h e = same_cast c d e (same_op (cases_order m.1.0 h.1.0))
    where
      p : ℕ
      p = c.stamp.process

      at_c : slice_get (w p).queued m.1.0 ≡ Some (Cast c.stamp.time c.op)
      at_c = m.1.1

      at_d : slice_get (w p).queued h.1.0 ≡ Some (Cast c.stamp.time d.op)
      at_d = subst (λ (s : Stamp). slice_get (w s.process).queued h.1.0 ≡ Some (Cast s.time d.op)) (sym e) h.1.1

      same_op : (m.1.0 ≡ h.1.0) ⊎ ((m.1.0 < h.1.0) ⊎ (h.1.0 < m.1.0)) → c.op ≡ d.op
      same_op (inl q) = let r : Some (Cast c.stamp.time c.op) ≡ Some (Cast c.stamp.time d.op) = sym at_c ∙ (ap (slice_get (w p).queued) q ∙ at_d) in cc
      same_op (inr (inl l)) = let r = (I.sent p m.0).rises m.1.0 h.1.0 _ _ at_c at_d l in absurd (omega (arith, r))
      same_op (inr (inr l)) = let r = (I.sent p m.0).rises h.1.0 m.1.0 _ _ at_d at_c l in absurd (omega (arith, r))

  pub one_order : (p q : ℕ) → p < n → q < n
      → IsPrefixOf (w p).deliveries (w q).deliveries ⊎ IsPrefixOf (w q).deliveries (w p).deliveries
  one_order p q l m =
      prefixes (w p).deliveries (w q).deliveries (I.local p l).deliveries_rise (I.local q m).deliveries_rise (deliveries_closed p q l m) (deliveries_closed q p m l)
      (λ c d i j e. made_once c d (delivered_made p l c i) (delivered_made q m d j) e)
