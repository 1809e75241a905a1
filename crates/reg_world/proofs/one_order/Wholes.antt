-- The laws of a run's order and replies.
use Rattle.std.proofs.Common.{◌≡◌, ℕ, ◌<◌, ◌⊎◌, List, [], ◌∷◌, ◌++◌, length, Option, Some, None, refl, sym, ◌∙◌, subst}
use Rattle.std.proofs.Common.{inl, inr}
use Rattle.reg_base.specs.declared.memory.Op.{Op}
use Rattle.reg_base.specs.declared.stamps.Delivered.{Delivered}
use Rattle.reg_front.specs.declared.starts.Start.{Start}
use Rattle.reg_process.specs.declared.steps.Step.{Step}
use Rattle.reg_process.specs.declared.events.Event.{Event}
use Rattle.reg_base.specs.Order.{Below, In, Rising}
use Rattle.reg_front.specs.Fronts.{KeepsLaws}
use Rattle.reg_world.specs.Nodes.{Nodes, after_step}
use Rattle.reg_world.specs.NodeParts.{nodes_after}
use Rattle.reg_world.specs.World.{move_of, whole}
use Rattle.reg_world.proofs.run.Traced.{Trace, casts_of, OrderIsLongest, RepliesRight, traced}
use Rattle.reg_world.proofs.run.Along.{along}
use Rattle.reg_base.proofs.Orders.{below_irrefl, below_asym}
use Rattle.std.proofs.lemmas.List.{append-nil}
use Rattle.reg_base.proofs.Lists.{in_right}
use Rattle.reg_world.proofs.one_order.Acts.{put_cases}
use Rattle.reg_world.proofs.one_order.Runs.{StepKept}
use Rattle.reg_world.proofs.one_order.NodeLaws.{inv_of, run_ok}
use Rattle.reg_world.proofs.one_order.Firsts.{Ordered, WorldInv, ordered_after, deliveries_prefix, rising_cut}
use Rattle.reg_world.proofs.one_memory.Replicas.{IsReplica, IsRight, right_later, step_replica}

-- the greatest of a rising list
last_of : (x : Delivered) (xs : List Delivered) → Rising (x ∷ xs)
    → (c : Delivered) × In c (x ∷ xs) × ((d : Delivered) → In d (x ∷ xs) → (d ≡ c) ⊎ Below d.stamp c.stamp)
last_of x [] r = (x, inl refl, λ d h. elim h [ inl e ↦ inl e | inr f ↦ absurd f ])
last_of x (y ∷ ys) r =
    let l = last_of y ys r.1 in (
      l.0,
      inr l.1,
      λ d h. elim h [
        | inl e ↦ inr (subst (λ (z : Delivered). Below z.stamp l.0.stamp) (sym e) (r.0 l.0 l.1))
        | inr i ↦ l.2 d i
      ],
    )

-- a prefix that has the greatest is all
whole_prefix : (xs ys rest : List Delivered) (c : Delivered) → Rising ys → xs ++ rest ≡ ys → In c xs
    → ((d : Delivered) → In d ys → (d ≡ c) ⊎ Below d.stamp c.stamp) → xs ≡ ys
whole_prefix xs ys [] c r e i h = sym (append-nil xs) ∙ e
whole_prefix xs ys (z ∷ rest) c r e i h =
    let b = rising_cut xs (z ∷ rest) c z (subst Rising (sym e) r) i (inl refl) in
    absurd (elim (h z (subst (In z) e (in_right z xs (z ∷ rest) (inl refl)))) [
      | inl q ↦ below_irrefl c.stamp (subst (λ (d : Delivered). Below c.stamp d.stamp) q b)
      | inr k ↦ below_asym c.stamp z.stamp b k
    ])

longest : (n registers k : ℕ) (w : Trace) → WorldInv n registers k w → (order : List Delivered)
    → casts_of w.order ≡ order → 0 < n → (p : ℕ) × (p < n) × ((w.nodes p).deliveries ≡ order)
longest n registers k w W [] e l =
    let f = deliveries_prefix n registers k w W 0 l in
    (0, l, nothing (w.nodes 0).deliveries f.0 (f.1 ∙ e))
  where
    nothing : (xs ys : List Delivered) → xs ++ ys ≡ [] → xs ≡ []
    nothing [] ys h = refl
    nothing (x ∷ xs) ys h = cc
longest n registers k w W (x ∷ xs) e l =
    let R : Rising (x ∷ xs) = subst Rising e W.ordered.rises in
    let m = last_of x xs R in
    let s = W.ordered.some m.0 (subst (In m.0) (sym e) m.1) in
    let f = deliveries_prefix n registers k w W s.0 s.1 in
    (s.0, s.1, whole_prefix (w.nodes s.0).deliveries (x ∷ xs) f.0 m.0 R (f.1 ∙ e) s.2 m.2)

pub whole_inv : (start : Op → ℕ → Start) (n registers : ℕ) (events : List Event)
    → let v = traced start n registers events in WorldInv n registers v.count v
whole_inv start n registers events = record {
  inv = inv_of start n registers events;
  ordered = along start n registers (λ v. Ordered n v.nodes (casts_of v.order)) (record { rises = tt; some = λ c h. absurd h; all = λ q c l h. absurd h })
      (λ es e h. let v = traced start n registers es in ordered_after start n registers v.count v (move_of n registers (whole start n registers es) e) (inv_of start n registers es) (run_ok start n registers es e) h)
      events;
}

pub order_is_longest : (start : Op → ℕ → Start) (n registers : ℕ) (events : List Event)
    → OrderIsLongest n (traced start n registers events)
order_is_longest start n registers events =
    let v = traced start n registers events in
    let V = whole_inv start n registers events in
    record { each = λ p l. deliveries_prefix n registers v.count v V p l; one = λ l. longest n registers v.count v V _ refl l }

-- every node's replies are right
abbrev pub Replicas : ℕ → ℕ → Nodes → Type 0
Replicas n registers w = (p : ℕ) → p < n → IsReplica registers (w p)

pub replicas_after : (start : Op → ℕ → Start) (n registers k : ℕ) (w : Nodes) (m : Option (ℕ × Step)) → KeepsLaws start
    → StepKept start n registers k w m → Replicas n registers w → Replicas n registers (nodes_after start w m)
replicas_after start n registers k w None laws K R = R
replicas_after start n registers k w (Some m) laws K R = λ q l.
    put_cases (IsReplica registers) w m.0 (after_step start (w m.0) m.1) q (λ _. step_replica registers (w m.0) (R m.0 K.0) start m.1 laws K.1.local.deliveries_rise) (λ _. R q l)

pub whole_replicas : (start : Op → ℕ → Start) (n registers : ℕ) (events : List Event) → KeepsLaws start
    → Replicas n registers (traced start n registers events).nodes
whole_replicas start n registers events laws =
    along start n registers (λ v. Replicas n registers v.nodes) (λ p l. record { copy = refl; count = refl; right = λ r h. absurd h })
    (λ es e h. let w = whole start n registers es in replicas_after start n registers (length w.accepted) w.nodes (move_of n registers w e) laws (run_ok start n registers es e) h)
    events

pub replies_right : (start : Op → ℕ → Start) (n registers : ℕ) (events : List Event) → KeepsLaws start
    → RepliesRight n registers (traced start n registers events)
replies_right start n registers events laws p r l h =
    let v = traced start n registers events in
    let f = deliveries_prefix n registers v.count v (whole_inv start n registers events) p l in
    subst (λ order. IsRight registers order r) f.1 (right_later registers (v.nodes p).deliveries f.0 r ((whole_replicas start n registers events laws p l).right r h))
