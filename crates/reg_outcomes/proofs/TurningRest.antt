-- A run at rest: each process delivered the whole order, and its copy is the memory after it.
use Rattle.std.proofs.Common.{◌≡◌, ℕ, ◌+◌, ◌<◌, List, [], ◌∷◌, length, map, replicate, refl, sym, ap, ◌∙◌, subst, inl}
use Rattle.std.proofs.Common.{arith}
use Rattle.reg_base.specs.declared.memory.Op.{Op}
use Rattle.reg_base.specs.declared.stamps.Delivered.{Delivered}
use Rattle.reg_base.specs.Memory.{memory, memory_after}
use Rattle.reg_base.specs.Order.{In, Rising}
use Rattle.reg_base.proofs.Lists.{in_left}
use Rattle.reg_base.proofs.Orders.{below_irrefl}
use Rattle.reg_front.specs.declared.starts.Start.{Start}
use Rattle.reg_front.specs.Fronts.{KeepsLaws}
use Rattle.reg_process.specs.declared.events.Event.{Event}
use Rattle.reg_process.specs.Process.{ops_of, unsettled, is_own}
use Rattle.std.specs.Prelude.{count_by}
use Rattle.reg_world.specs.declared.order.First.{First}
use Rattle.reg_world.specs.Laws.{IsMade, AllAcknowledged, IsQuiescent}
use Rattle.reg_world.specs.World.{World, delivered_of, whole}
use Rattle.reg_world.specs.Promises.{OrderIsLongest, OrderIsRight}
use Rattle.reg_world.proofs.lists.Members.{in_at, map_in}
use Rattle.reg_world.proofs.one_order.Local.{held_above}
use Rattle.reg_world.proofs.one_order.NodeLaws.{inv_of}
use Rattle.reg_world.proofs.one_order.Wholes.{whole_replicas}
use Rattle.reg_world.proofs.one_order.Worlds.{Inv, delivered_made, held_made}
use Rattle.reg_world.proofs.witness.Promised.{rests, longest, order_right}
use Rattle.reg_world.proofs.one_order.Settled.{same_deliveries}

pub none_in : {X : Type 0} (xs : List X) → ((x : X) → In x xs → ⊥) → xs ≡ []
none_in [] h = refl
none_in (x ∷ xs) h = absurd (h x (inl refl))

pub order_ops : (fs : List First) → ops_of (map delivered_of fs) ≡ map (λ (f : First). f.op) fs
order_ops [] = refl
order_ops (f ∷ fs) = ap (λ l. f.op ∷ l) (order_ops fs)

module _ (start : Op → ℕ → Start) (n registers : ℕ) (laws : KeepsLaws start) (events : List Event) where
  abbrev w : World
  w = whole start n registers events

  I : Inv n registers (length w.accepted) w.nodes
  I = inv_of start n registers events

  O : OrderIsRight n w
  O = order_right start n registers laws events

  L : OrderIsLongest n w
  L = longest start n registers laws events

  -- the order rises
  pub order_rises : (p : ℕ) → p < n → Rising (map delivered_of w.order)
  order_rises p l = let one = L.one (omega (arith, l)) in subst Rising one.2 (I.local one.0 one.1).deliveries_rise

  module _ (none : AllAcknowledged n w.nodes) where
    Q : IsQuiescent n w.nodes
    Q = rests start n registers laws events none

    -- what was made stands in the order
    pub made_ordered : (p : ℕ) → p < n → (c : Delivered) → IsMade n w.nodes c → In c (map delivered_of w.order)
    made_ordered p l c made = let front = L.each p l in subst (In c) front.1 (in_left c (w.nodes p).deliveries front.0 (Q.full p c l made))

    -- and what stands there each process delivered
    pub ordered_there : (p : ℕ) → p < n → (c : Delivered) → In c (map delivered_of w.order) → In c (w.nodes p).deliveries
    ordered_there p l c i =
        let f = map_in delivered_of c w.order i in
        let place = in_at f.0 w.order f.1 in
        let r = O.some place.0 f.0 place.1 in
        let made : IsMade n w.nodes (delivered_of f.0) = delivered_made n registers (length w.accepted) w.nodes I r.0 r.1 (delivered_of f.0) r.2 in
        Q.full p c l (subst (IsMade n w.nodes) (sym f.2) made)

    pub all_there : (p : ℕ) → p < n → (w.nodes p).deliveries ≡ map delivered_of w.order
    all_there p l = let front = L.each p l in same_deliveries (w.nodes p).deliveries (map delivered_of w.order) front.0 (order_rises p l) front.1 (ordered_there p l)

    pub copy_is : (p : ℕ) → p < n → (w.nodes p).state.copy ≡ memory registers (map (λ (f : First). f.op) w.order)
    copy_is p l =
        (whole_replicas start n registers events laws p l).copy
        ∙ (ap (λ ds. memory_after (ops_of ds) (replicate registers 0)) (all_there p l) ∙ ap (λ ops. memory registers ops) (order_ops w.order))

    none_held : (p : ℕ) → p < n → (w.nodes p).state.held ≡ []
    none_held p l = none_in (w.nodes p).state.held (λ c h.
        let made = held_made n registers (length w.accepted) w.nodes I p l c h in
        below_irrefl c.stamp (held_above n p (w.nodes p).state (w.nodes p).deliveries (I.local p l) c c (Q.full p c l made) h))

    pub none_unsettled : (p : ℕ) → p < n → unsettled (w.nodes p).state ≡ 0
    none_unsettled p l = ap (count_by (is_own (w.nodes p).state)) (none_held p l)

    -- the clock is no less than the time of a cast in the order
    pub order_past : (p : ℕ) → p < n → (c : Delivered) → In c (map delivered_of w.order) → c.stamp.time < (w.nodes p).state.clock + 1
    order_past p l c i = let t = (I.local p l).delivery_times c (ordered_there p l c i) in omega (arith, t)
