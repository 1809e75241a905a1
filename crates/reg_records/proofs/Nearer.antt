-- How far a run is from rest, where one process makes a step.
use Rattle.std.proofs.Common.{◌≡◌, ℕ, ◌+◌, ◌-◌, ◌*◌, ◌<◌, ◌≤◌, drop, cond, refl, sym, ap, ◌∙◌, inl, inr, arith}
use Rattle.std.specs.Prelude.{◌==◌}
use Rattle.std.specs.List.{count_by}
use Rattle.std.proofs.lemmas.Bool.{cases_eq, cond-true, cond-false, eq-eqb, ne_eqb}
use Rattle.reg_process.specs.Process.{peer_at, pending_of}
use Rattle.reg_world.specs.Nodes.{Node, Nodes, put}
use Rattle.reg_world.proofs.one_order.Acts.{put_cases}
use Rattle.reg_world.proofs.one_order.NodeEvents.{put_same, put_other}
use Rattle.reg_base.specs.Sums.{total}
use Rattle.reg_records.specs.Rest.{is_cast, casts_between, casts_to, left_at, distance}
use Rattle.reg_base.proofs.Totals.{total_same, total_one, total_part}

-- the casts that a node of number p has to accept, among these others
abbrev pub casts_for : ℕ → Nodes → ℕ → Node → ℕ
casts_for n w p y = total n (λ q. cond (q == p) 0 (count_by is_cast (drop (peer_at y.state q).expected (w q).queued)))

-- a node that queues no cast
abbrev pub QueuesNoCast : Node → Node → Type 0
QueuesNoCast x y = (k : ℕ) → count_by is_cast (drop k y.queued) ≡ count_by is_cast (drop k x.queued)

module _ (n p : ℕ) (w : Nodes) (y : Node) (l : p < n) (Q : QueuesNoCast (w p) y) where
  queued_same : (q k : ℕ) → count_by is_cast (drop k (put w p y q).queued) ≡ count_by is_cast (drop k (w q).queued)
  queued_same q k = put_cases (λ (z : Node). count_by is_cast (drop k z.queued) ≡ count_by is_cast (drop k (w q).queued)) w p y q
      (λ e. Q k ∙ ap (λ z. count_by is_cast (drop k (w z).queued)) (sym e))
      (λ _. refl)

  -- whatever it is to the process of number q, with this node
  casts_same : (q : ℕ) (z : Node) → total n (λ a. cond (a == q) 0 (count_by is_cast (drop (peer_at z.state a).expected (put w p y a).queued))) ≡ casts_for n w q z
  casts_same q z = total_same n (λ a. cond (a == q) 0 (count_by is_cast (drop (peer_at z.state a).expected (put w p y a).queued))) (λ a. cond (a == q) 0 (count_by is_cast (drop (peer_at z.state a).expected (w a).queued)))
      (λ a _. ap (cond (a == q) 0) (queued_same a (peer_at z.state a).expected))

  left_other : (q : ℕ) → (q ≡ p → ⊥) → left_at n (put w p y) q ≡ left_at n w q
  left_other q ne =
      let e = put_other w p y q ne in
      ap (λ (z : Node). pending_of z.state.peers + total n (λ a. cond (a == q) 0 (count_by is_cast (drop (peer_at z.state a).expected (put w p y a).queued))) * (n - 1)) e
      ∙ ap (λ c. pending_of (w q).state.peers + c * (n - 1)) (casts_same q (w q))

  left_own : left_at n (put w p y) p ≡ pending_of y.state.peers + casts_for n w p y * (n - 1)
  left_own =
      let e = put_same w p y p refl in
      ap (λ (z : Node). pending_of z.state.peers + total n (λ a. cond (a == p) 0 (count_by is_cast (drop (peer_at z.state a).expected (put w p y a).queued))) * (n - 1)) e
      ∙ ap (λ c. pending_of y.state.peers + c * (n - 1)) (casts_same p y)

  -- what the process has less to have acknowledged, the run is nearer to rest
  pub nearer_by : (fall : ℕ) → pending_of y.state.peers + casts_for n w p y * (n - 1) + fall ≡ left_at n w p
      → distance n (put w p y) + fall ≡ distance n w
  nearer_by fall h =
      let t = total_one n p (left_at n (put w p y)) (left_at n w) l (λ q _ ne. left_other q ne) in
      sums (distance n (put w p y)) (distance n w) (left_at n (put w p y) p) (left_at n w p) (pending_of y.state.peers + casts_for n w p y * (n - 1)) fall t left_own h
    where
      sums : (a b c d e fall : ℕ) → a + d ≡ b + c → c ≡ e → e + fall ≡ d → a + fall ≡ b
      sums a b c d e fall t o h = omega (arith, t, o, h)

-- where it accepts nothing
pub casts_kept : (n p : ℕ) (w : Nodes) (y : Node)
    → ((q : ℕ) → q < n → (q ≡ p → ⊥) → (peer_at y.state q).expected ≡ (peer_at (w p).state q).expected)
    → casts_for n w p y ≡ casts_to n w p
casts_kept n p w y h = total_same n (λ q. cond (q == p) 0 (count_by is_cast (drop (peer_at y.state q).expected (w q).queued))) (λ q. cond (q == p) 0 (casts_between w q p))
    (λ q l. elim (cases_eq q p) [
      | inl e ↦ cond-true (q == p) 0 _ (eq-eqb q p e) ∙ sym (cond-true (q == p) 0 _ (eq-eqb q p e))
      | inr ne ↦ ap (λ k. cond (q == p) 0 (count_by is_cast (drop k (w q).queued))) (h q l ne)
    ])

-- and where it accepts something of one process alone
pub casts_fewer : (n p a : ℕ) (w : Nodes) (y : Node) → a < n → (a ≡ p → ⊥)
    → ((q : ℕ) → q < n → (q ≡ a → ⊥) → (peer_at y.state q).expected ≡ (peer_at (w p).state q).expected)
    → casts_for n w p y + casts_between w a p
    ≡ casts_to n w p + count_by is_cast (drop (peer_at y.state a).expected (w a).queued)
casts_fewer n p a w y la ne h =
    let f : ℕ → ℕ = λ q. cond (q == p) 0 (count_by is_cast (drop (peer_at y.state q).expected (w q).queued)) in
    let g : ℕ → ℕ = λ q. cond (q == p) 0 (casts_between w q p) in
    let t : total n f + g a ≡ total n g + f a = total_one n a f g la (λ q l away. ap (λ k. cond (q == p) 0 (count_by is_cast (drop k (w q).queued))) (h q l away)) in
    let x : f a ≡ count_by is_cast (drop (peer_at y.state a).expected (w a).queued) = cond-false (a == p) 0 _ (ne_eqb a p ne) in
    let z : g a ≡ casts_between w a p = cond-false (a == p) 0 _ (ne_eqb a p ne) in
    sums (total n f) (total n g) (f a) (g a) _ _ t x z
  where
    sums : (a b c d e f : ℕ) → a + d ≡ b + c → c ≡ e → d ≡ f → a + f ≡ b + e
    sums a b c d e f t o h = omega (arith, t, o, h)

-- a process has no more to have acknowledged than all
pub pending_within : (n p : ℕ) (w : Nodes) → p < n → pending_of (w p).state.peers ≤ distance n w
pending_within n p w l = let t = total_part n p (left_at n w) l in within (pending_of (w p).state.peers) (casts_to n w p * (n - 1)) (distance n w) t
  where
    within : (a b c : ℕ) → a + b ≤ c → a ≤ c
    within a b c h = omega (arith, h)
