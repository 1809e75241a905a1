-- A step of one node, with its links to the others, keeps what holds of all nodes.
use Rattle.std.proofs.Common.{◌≡◌, ℕ, suc, ◌+◌, ◌<◌, ◌≤◌, ◌⊎◌, List, ◌++◌, length, Some, sym, ap, ◌∙◌, subst, inl, inr}
use Rattle.std.proofs.Common.{arith}
use Rattle.std.specs.Prelude.{slice_get, ◌==◌}
use Rattle.std.proofs.lemmas.Bool.{cases_eq, cond_both, eqb-true, eqb-false}
use Rattle.reg_base.specs.declared.memory.Op.{Op}
use Rattle.reg_base.specs.declared.stamps.Delivered.{Delivered}
use Rattle.reg_frames.specs.declared.bodies.Body.{Body}
use Rattle.reg_frames.specs.declared.bodies.Body.TheVariants.{Cast}
use Rattle.reg_base.specs.Order.{In}
use Rattle.reg_process.specs.Process.{cast_at}
use Rattle.reg_world.specs.Nodes.{Node, Nodes, put}
use Rattle.reg_world.proofs.lists.Bodies.{place_first, place_back}
use Rattle.reg_world.proofs.one_order.Local.{Local}
use Rattle.reg_world.proofs.one_order.Links.{Sent}
use Rattle.reg_world.proofs.one_order.Worlds.{Known, Inv, LinkOf, queues_of, count_of, count_own, count_other}

pub put_cases : {A : Type 0} (P : A → Type 0) (at : ℕ → A) (p : ℕ) (x : A) (j : ℕ) → (j ≡ p → P x)
    → ((j ≡ p → ⊥) → P (at j)) → P (put at p x j)
put_cases P at p x j h g = cond_both (j == p) x (at j) P (λ e. h (eqb-true j p e)) (λ e. g (eqb-false j p e))

-- the node of p after a step, among the other nodes as they were
pub record Kept (n registers k p : ℕ) (w : Nodes) (y : Node) : Type 0 where
  pub local : Local n p y.state y.deliveries
  pub sent : Sent registers y.queued y.state.clock
  pub sends : (b : ℕ) → b < n → (p ≡ b → ⊥) → LinkOf p b y (w b)
  pub receives : (a : ℕ) → a < n → (a ≡ p → ⊥) → LinkOf a p (w a) y
  pub known : Known n (y.deliveries ++ y.state.held) (count_of y p) (queues_of (put w p y))
  pub more : List Body
  pub grows : y.queued ≡ (w p).queued ++ more
  pub clock : y.state.clock ≤ suc k

pub known_same : (n : ℕ) (casts casts' : List Delivered) (count count' : ℕ → ℕ) (queues : ℕ → List Body)
    → Known n casts count queues → ((c : Delivered) → In c casts → In c casts')
    → ((c : Delivered) → In c casts' → In c casts) → ((r : ℕ) → r < n → count' r ≡ count r)
    → Known n casts' count' queues
known_same n casts casts' count count' queues K f g e = record {
  sound = λ c h. let r = K.sound c (g c h) in (r.0, (r.1.0, (let x = r.1.1 in let y = e c.stamp.process r.0 in omega (arith, x, y)), r.1.2));
  complete = λ r i t op l m at. f (cast_at t r op) (K.complete r i t op l (let y = e r l in omega (arith, y)) at);
}

-- the queues grow at their ends
pub known_grown : (n : ℕ) (casts : List Delivered) (count : ℕ → ℕ) (queues queues' : ℕ → List Body)
    → Known n casts count queues → ((r : ℕ) → r < n → count r ≤ length (queues r))
    → ((r i : ℕ) (x : Body) → slice_get (queues r) i ≡ Some x → slice_get (queues' r) i ≡ Some x)
    → ((r i : ℕ) (x : Body) → i < length (queues r) → slice_get (queues' r) i ≡ Some x
    → slice_get (queues r) i ≡ Some x)
    → Known n casts count queues'
known_grown n casts count queues queues' K w f g = record {
  sound = λ c h. let r = K.sound c h in (r.0, (r.1.0, r.1.1, f c.stamp.process r.1.0 _ r.1.2));
  complete = λ r i t op l m at. K.complete r i t op l m (g r i _ (let y = w r l in omega (arith, m, y)) at);
}

-- what the next body of r adds to the casts
pub record Adds (casts casts' : List Delivered) (r : ℕ) (body : Body) : Type 0 where
  pub old : (c : Delivered) → In c casts → In c casts'
  pub new : (t : ℕ) (op : Op) → body ≡ Cast t op → In (cast_at t r op) casts'
  pub only : (c : Delivered) → In c casts' → In c casts ⊎ ((body ≡ Cast c.stamp.time c.op) × (c.stamp.process ≡ r))

last_or_before : (i m : ℕ) → i < m + 1 → (i < m) ⊎ (i ≡ m)
last_or_before i m l = grind arith

-- one more body of r0 is known
pub known_more : (n : ℕ) (casts casts' : List Delivered) (count : ℕ → ℕ) (queues : ℕ → List Body) (r0 : ℕ) (body : Body)
    → r0 < n → Known n casts count queues → slice_get (queues r0) (count r0) ≡ Some body → Adds casts casts' r0 body
    → Known n casts' (put count r0 (count r0 + 1)) queues
known_more n casts casts' count queues r0 body l0 K at0 A = record {
  sound = λ c h. elim (A.only c h) [
    | inl i ↦ let r = K.sound c i in (r.0, (r.1.0, more_count c.stamp.process r.1.0 r.1.1, r.1.2))
    | inr e ↦ ((let z = e.1 in omega (arith, z)), (count r0, here c.stamp.process e.1, subst (λ r. slice_get (queues r) (count r0) ≡ Some (Cast c.stamp.time c.op)) (sym e.1) (at0 ∙ ap Some e.0)))
  ];
  complete = λ r i t op l m at. elim (cases_eq r r0) [
    | inl e ↦ let m' : i < count r0 + 1 = below_here r i e m in
        elim (last_or_before i (count r0) m') [
          | inl b ↦ A.old (cast_at t r op) (K.complete r i t op l (let z = ap count e in omega (arith, b, z)) at)
          | inr q ↦ subst (λ z. In (cast_at t z op) casts') (sym e) (A.new t op (same t op r i e q at))
        ]
    | inr ne ↦ A.old (cast_at t r op) (K.complete r i t op l (below_other r i ne m) at)
  ];
}
  where
    more_count : (r i : ℕ) → i < count r → i < put count r0 (count r0 + 1) r
    more_count r i h = put_cases (λ m. i < m) count r0 (count r0 + 1) r (λ e. let z = ap count e in omega (arith, z)) (λ ne. h)

    here : (r : ℕ) → r ≡ r0 → count r0 < put count r0 (count r0 + 1) r
    here r e = put_cases (λ m. count r0 < m) count r0 (count r0 + 1) r (λ _. omega arith) (λ ne. absurd (ne e))

    below_here : (r i : ℕ) → r ≡ r0 → i < put count r0 (count r0 + 1) r → i < count r0 + 1
    below_here r i e = put_cases (λ m. i < m → i < count r0 + 1) count r0 (count r0 + 1) r (λ _ h. h) (λ ne. absurd (ne e))

    below_other : (r i : ℕ) → (r ≡ r0 → ⊥) → i < put count r0 (count r0 + 1) r → i < count r
    below_other r i ne = put_cases (λ m. i < m → i < count r) count r0 (count r0 + 1) r (λ e. absurd (ne e)) (λ _ h. h)

    same : (t : ℕ) (op : Op) (r i : ℕ) → r ≡ r0 → i ≡ count r0 → slice_get (queues r) i ≡ Some (Cast t op) → body ≡ Cast t op
    same t op r i e q at =
        let f : slice_get (queues r) i ≡ slice_get (queues r0) (count r0) = ap (λ z. slice_get (queues z) i) e ∙ ap (slice_get (queues r0)) q in
        let g : Some body ≡ Some (Cast t op) = sym at0 ∙ (sym f ∙ at) in
        cc

-- the counts are within the queues
pub counts_within : (n registers k : ℕ) (w : Nodes) → Inv n registers k w → (q r : ℕ) → q < n → r < n
    → count_of (w q) q r ≤ length (w r).queued
counts_within n registers k w I q r l m = elim (cases_eq r q) [
  | inl e ↦ let a = count_own (w q) q r e in let b = ap (λ z. length (w z).queued) e in omega (arith, a, b)
  | inr ne ↦ let a = count_other (w q) q r ne in let b = (I.link r q m l ne).within in omega (arith, a, b)
]

module _ (w : Nodes) (p : ℕ) (y : Node) (more : List Body) (grows : y.queued ≡ (w p).queued ++ more) where
  pub queue_forth : (r i : ℕ) (x : Body) → slice_get (w r).queued i ≡ Some x → slice_get (put w p y r).queued i ≡ Some x
  queue_forth r i x h = put_cases (λ (z : Node). slice_get z.queued i ≡ Some x) w p y r
      (λ e. subst (λ q. slice_get q i ≡ Some x) (sym grows) (place_first (w p).queued more i x (subst (λ r. slice_get (w r).queued i ≡ Some x) e h)))
      (λ ne. h)

  pub queue_back : (r i : ℕ) (x : Body) → i < length (w r).queued → slice_get (put w p y r).queued i ≡ Some x
      → slice_get (w r).queued i ≡ Some x
  queue_back r i x l = put_cases (λ (z : Node). slice_get z.queued i ≡ Some x → slice_get (w r).queued i ≡ Some x) w p y r
      (λ e h.
      let l' : i < length (w p).queued = subst (λ r. i < length (w r).queued) e l in
      subst (λ r. slice_get (w r).queued i ≡ Some x) (sym e) (place_back (w p).queued more i x l' (subst (λ q. slice_get q i ≡ Some x) grows h)))
      (λ ne h. h)

pub inv_act : (n registers k p : ℕ) (w : Nodes) (y : Node) → p < n → Inv n registers k w → Kept n registers k p w y
    → Inv n registers (suc k) (put w p y)
inv_act n registers k p w y l I K = record {
  local = λ j m. put_cases (λ (z : Node). Local n j z.state z.deliveries) w p y j (λ e. subst (λ r. Local n r y.state y.deliveries) (sym e) K.local) (λ ne. I.local j m);
  sent = λ j m. put_cases (λ (z : Node). Sent registers z.queued z.state.clock) w p y j (λ e. K.sent) (λ ne. I.sent j m);
  link = λ a b la lb ne. put_cases (λ (z : Node). LinkOf a b z (put w p y b)) w p y a
      (λ e. put_cases (λ (z : Node). LinkOf a b y z) w p y b
      (λ f. absurd (ne (e ∙ sym f)))
      (λ f. subst (λ r. LinkOf r b y (w b)) (sym e) (K.sends b lb (λ g. f (sym g)))))
      (λ e. put_cases (λ (z : Node). LinkOf a b (w a) z) w p y b
      (λ f. subst (λ r. LinkOf a r (w a) y) (sym f) (K.receives a la e))
      (λ f. I.link a b la lb ne));
  known = λ q m. put_cases (λ (z : Node). Known n (z.deliveries ++ z.state.held) (count_of z q) (queues_of (put w p y))) w p y q
      (λ e. subst (λ r. Known n (y.deliveries ++ y.state.held) (count_of y r) (queues_of (put w p y))) (sym e) K.known)
      (λ ne. known_grown n _ (count_of (w q) q) (queues_of w) (queues_of (put w p y)) (I.known q m) (λ r o. counts_within n registers k w I q r m o) (queue_forth w p y K.more K.grows) (queue_back w p y K.more K.grows));
  clocks = λ j m. put_cases (λ (z : Node). z.state.clock ≤ suc k) w p y j (λ e. K.clock) (λ ne. let z = I.clocks j m in omega (arith, z));
}
