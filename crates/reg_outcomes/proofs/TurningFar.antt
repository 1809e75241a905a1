-- How far from rest a call takes a run that is at rest.
use Rattle.std.proofs.Common.{◌≡◌, ℕ, zero, suc, ◌+◌, ◌-◌, ◌*◌, ◌<◌, ◌≤◌, Bool, true, false, cond, List, [], ◌∷◌, ◌++◌}
use Rattle.std.proofs.Common.{length, drop, Option, Some, None, refl, sym, ap, ◌∙◌, inl, inr, arith}
use Rattle.std.specs.Prelude.{◌==◌}
use Rattle.std.specs.List.{count_by}
use Rattle.std.specs.Option.{option_to_list}
use Rattle.std.proofs.lemmas.Bool.{cases_eq, cond-true, cond-false, eq-eqb, ne_eqb}
use Rattle.std.proofs.lemmas.List.{append-nil}
use Rattle.std.proofs.lemmas.List.Sums.{sum_by-append}
use Rattle.std.proofs.Math.Nat.{suc-mul, mul-le-mul}
use Rattle.reg_base.specs.declared.memory.Op.{Op}
use Rattle.reg_base.proofs.Totals.{total_both, total_least, total_each, total_at, total_same}
use Rattle.reg_frames.specs.declared.bodies.Body.{Body}
use Rattle.reg_frames.specs.declared.bodies.Body.TheVariants.{Cast, Ack}
use Rattle.reg_front.specs.declared.starts.Start.{Start}
use Rattle.reg_front.specs.declared.starts.Start.TheVariants.{Cast as Casts, CastAndAnswer as CastsAndAnswers}
use Rattle.reg_front.specs.declared.starts.Start.TheVariants.{Look as Looks, Hold as Holds}
use Rattle.reg_process.specs.declared.steps.Step.TheVariants.{Call}
use Rattle.reg_process.specs.Process.{State, Outcome, called, peer_at, pending_of, step, unsettled}
use Rattle.reg_process.proofs.Peers.{queue_expected}
use Rattle.reg_records.specs.Rest.{is_cast, casts_between, casts_to, left_at, distance}
use Rattle.reg_records.proofs.Casts.{weight}
use Rattle.reg_records.proofs.EntryFacts.{pending_queue}
use Rattle.reg_world.specs.Nodes.{Node, Nodes, put, after_step}
use Rattle.reg_world.proofs.one_order.Acts.{put_cases}
use Rattle.reg_world.proofs.one_order.NodeEvents.{put_same, put_other}

-- what a call does to the links: it accepts nothing, and puts one body at most behind each
pub record Queues (s : State) (r : State × Outcome) : Type 0 where
  pub expected : (q : ℕ) → (peer_at r.0 q).expected ≡ (peer_at s q).expected
  pub pending : pending_of r.0.peers + 1 ≤ pending_of s.peers + length s.peers

more_frames : (a m k : ℕ) → k < m → a + 1 ≤ a + m
more_frames a m k l = omega (arith, l)

pub called_queues : (s : State) (op : Op) (st : Start) → s.me < length s.peers → Queues s (called s op st)
called_queues s op Casts l = record { expected = queue_expected (Cast (s.clock + 1) op) 0 s.me s.peers; pending = let e = pending_queue (Cast (s.clock + 1) op) s.me s.peers l in omega (arith, e) }
called_queues s op CastsAndAnswers l = record { expected = queue_expected (Cast (s.clock + 1) op) 0 s.me s.peers; pending = let e = pending_queue (Cast (s.clock + 1) op) s.me s.peers l in omega (arith, e) }
called_queues s op Looks l =
    record { expected = λ q. refl; pending = more_frames (pending_of s.peers) (length s.peers) s.me l }
called_queues s op Holds l =
    record { expected = λ q. refl; pending = more_frames (pending_of s.peers) (length s.peers) s.me l }

-- one body more is one cast more at most
one_more_cast : (k : ℕ) (bs : List Body) (o : Option Body)
    → count_by is_cast (drop k (bs ++ option_to_list o)) ≤ count_by is_cast (drop k bs) + 1
one_more_cast k bs None = let e = ap (λ l. count_by is_cast (drop k l)) (append-nil bs) in omega (arith, e)
one_more_cast zero bs (Some b) = let a = sum_by-append weight bs (b ∷ []) in let s = single b in omega (arith, a, s)
  where
    single : (b : Body) → count_by is_cast (b ∷ []) ≤ 1
    single (Cast t op) = omega arith
    single (Ack t) = omega arith
one_more_cast (suc zero) [] (Some b) = omega arith
one_more_cast (suc (suc k)) [] (Some b) = omega arith
one_more_cast (suc k) (x ∷ xs) (Some b) = one_more_cast k xs (Some b)

-- one more of m in all, where one number has one more
room_more : (a b c d m : ℕ) → a ≤ b → c ≤ d + 1 → a + c * m ≤ (b + d * m) + m
room_more a b c d m h k =
    let x : c * m ≤ (d + 1) * m = mul-le-mul k (let same : m ≤ m = omega arith in same) in
    let y : (d + 1) * m ≡ d * m + m = ap (λ z. z * m) (let e : d + 1 ≡ suc d = omega arith in e) ∙ suc-mul d m in
    omega (arith, h, x, y)

own_room : (a b c d m : ℕ) → a ≤ b + m → c ≡ d → a + c * m ≤ (b + d * m) + m
own_room a b c d m h e = let x = ap (λ z. z * m) e in omega (arith, h, x)

module _ (start : Op → ℕ → Start) (n p : ℕ) (w : Nodes) (op : Op) (l : p < n) (me : (w p).state.me ≡ p) (size : length (w p).state.peers ≡ n) where
  abbrev y : Node
  y = after_step start (w p) (Call op)

  abbrev v : Nodes
  v = put w p y

  G : Queues (w p).state (step start (w p).state (Call op))
  G = called_queues (w p).state op (start op (unsettled (w p).state)) (let e = me in let f = size in omega (arith, e, f, l))

  expected_same : (q a : ℕ) → (peer_at (v q).state a).expected ≡ (peer_at (w q).state a).expected
  expected_same q a = put_cases (λ (x : Node). (peer_at x.state a).expected ≡ (peer_at (w q).state a).expected) w p y q
      (λ e. G.expected a ∙ ap (λ r. (peer_at (w r).state a).expected) (sym e)) (λ _. refl)

  between_same : (a q : ℕ) → (a ≡ p → ⊥) → casts_between v a q ≡ casts_between w a q
  between_same a q ne = ap (λ (x : Node). count_by is_cast (drop (peer_at (v q).state a).expected x.queued)) (put_other w p y a ne) ∙ ap (λ k. count_by is_cast (drop k (w a).queued)) (expected_same q a)

  between_more : (q : ℕ) → casts_between v p q ≤ casts_between w p q + 1
  between_more q =
      let e : casts_between v p q ≡ count_by is_cast (drop (peer_at (w q).state p).expected y.queued) =
      ap (λ (x : Node). count_by is_cast (drop (peer_at (v q).state p).expected x.queued)) (put_same w p y p refl) ∙ ap (λ k. count_by is_cast (drop k y.queued)) (expected_same q p) in
      let m = one_more_cast (peer_at (w q).state p).expected (w p).queued (step start (w p).state (Call op)).1.body in
      omega (arith, e, m)

  -- of all others a process has to accept one cast more at most
  casts_more : (q : ℕ) → casts_to n v q ≤ casts_to n w q + 1
  casts_more q =
      let old : ℕ → ℕ = λ a. cond (a == q) 0 (casts_between w a q) in
      let extra : ℕ → ℕ = λ a. cond (a == p) 1 0 in
      let each = total_least n (λ a. cond (a == q) 0 (casts_between v a q)) (λ a. old a + extra a) (λ a _. one a) in
      let both = total_both n old extra (λ a. old a + extra a) (λ a _. refl) in
      let single = total_at n p extra l (λ a _ ne. cond-false (a == p) 1 0 (ne_eqb a p ne)) in
      let few : extra p ≤ 1 = most (p == p) in
      omega (arith, each, both, single, few)
    where
      most : (b : Bool) → cond b 1 0 ≤ 1
      most true = omega arith
      most false = omega arith

      by : (b c : Bool) (x z : ℕ) → x ≤ z + cond c 1 0 → cond b 0 x ≤ cond b 0 z + cond c 1 0
      by true c x z h = omega arith
      by false c x z h = h

      one : (a : ℕ) → cond (a == q) 0 (casts_between v a q) ≤ cond (a == q) 0 (casts_between w a q) + cond (a == p) 1 0
      one a = elim (cases_eq a p) [
        | inl e ↦ by (a == q) (a == p) (casts_between v a q) (casts_between w a q) (
            let m = between_more q in
            let f = ap (λ r. casts_between v r q) e in
            let g = ap (λ r. casts_between w r q) e in
            let t = yes e in
            omega (arith, m, f, g, t))
        | inr ne ↦ by (a == q) (a == p) (casts_between v a q) (casts_between w a q) (let s = between_same a q ne in omega (arith, s))
      ]
        where
          yes : a ≡ p → cond {A = ℕ} (a == p) 1 0 ≡ 1
          yes e = cond-true (a == p) 1 0 (eq-eqb a p e)

  -- and the caller no more than before
  casts_own : casts_to n v p ≡ casts_to n w p
  casts_own = total_same n (λ a. cond (a == p) 0 (casts_between v a p)) (λ a. cond (a == p) 0 (casts_between w a p)) (λ a _. elim (cases_eq a p) [
    | inl e ↦ cond-true (a == p) 0 (casts_between v a p) (eq-eqb a p e) ∙ sym (cond-true (a == p) 0 (casts_between w a p) (eq-eqb a p e))
    | inr ne ↦ ap (cond (a == p) 0) (between_same a p ne)
  ])

  left_more : (q : ℕ) → q < n → left_at n v q ≤ left_at n w q + (n - 1)
  left_more q lq = elim (cases_eq q p) [
    | inl e ↦
        let here : pending_of (v p).state.peers ≡ pending_of y.state.peers = ap (λ (x : Node). pending_of x.state.peers) (put_same w p y p refl) in
        let more = G.pending in
        let many = size in
        let own = own_room (pending_of (v p).state.peers) (pending_of (w p).state.peers) (casts_to n v p) (casts_to n w p) (n - 1) (omega (arith, here, more, many, l)) casts_own in
        let a = ap (left_at n v) e in
        let b = ap (left_at n w) e in
        omega (arith, own, a, b)
    | inr ne ↦ room_more (pending_of (v q).state.peers) (pending_of (w q).state.peers) (casts_to n v q) (casts_to n w q) (n - 1)
        (let same = ap (λ (x : Node). pending_of x.state.peers) (put_other w p y q ne) in omega (arith, same)) (casts_more q)
  ]

  pub distance_more : distance n v ≤ distance n w + n * (n - 1)
  distance_more =
      let each = total_least n (left_at n v) (λ q. left_at n w q + (n - 1)) left_more in
      let both = total_both n (left_at n w) (λ _. n - 1) (λ q. left_at n w q + (n - 1)) (λ q _. refl) in
      let all = total_each n (n - 1) in
      omega (arith, each, both, all)
