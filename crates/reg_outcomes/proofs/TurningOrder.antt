-- The order of a run that came to rest, and came to rest again after one cast more, or none.
use Rattle.std.proofs.Common.{◌≡◌, ℕ, ◌+◌, ◌<◌, List, [], ◌∷◌, ◌++◌, map, refl, sym, ap, ◌∙◌, subst, inl, inr, arith}
use Rattle.reg_base.specs.declared.memory.Op.{Op}
use Rattle.reg_base.specs.declared.stamps.Delivered.{Delivered}
use Rattle.reg_base.specs.declared.stamps.Stamp.{Stamp}
use Rattle.reg_base.specs.Order.{Below, In, Rising}
use Rattle.reg_base.proofs.Lists.{in_cases}
use Rattle.reg_base.proofs.Orders.{below_irrefl}
use Rattle.reg_front.specs.declared.starts.Start.{Start}
use Rattle.reg_front.specs.Fronts.{KeepsLaws}
use Rattle.reg_process.specs.declared.events.Event.{Event}
use Rattle.reg_world.specs.declared.order.First.{First}
use Rattle.reg_world.specs.Laws.{IsMade, AllAcknowledged}
use Rattle.reg_world.specs.Runs.{Cast}
use Rattle.reg_world.specs.World.{World, delivered_of, whole}
use Rattle.reg_world.proofs.lists.Members.{in_at, at_in, in_map, map_append}
use Rattle.reg_base.proofs.Lists.{in_right}
use Rattle.reg_world.proofs.one_order.Firsts.{rising_cut, rising_end}
use Rattle.reg_world.proofs.witness.Promised.{order_right, casts_right}
use Rattle.reg_outcomes.proofs.TurningRest.{none_in, made_ordered, order_rises, order_past}

-- the cast of a delivery
abbrev pub made_as : First → Cast
made_as f = record { stamp = f.stamp; id = f.id; op = f.op }

-- a rising list of one cast alone has it once
one_of : (c : Cast) (fs : List First) → Rising (map delivered_of fs) → ((f : First) → In f fs → made_as f ≡ c)
    → (fs ≡ [] → ⊥) → (f : First) × (fs ≡ f ∷ []) × (made_as f ≡ c)
one_of c [] r same some = absurd (some refl)
one_of c (f ∷ []) r same some = (f, refl, same f (inl refl))
one_of c (f ∷ g ∷ fs) r same some =
    let e : f.stamp ≡ g.stamp = ap Cast.stamp (same f (inl refl)) ∙ sym (ap Cast.stamp (same g (inr (inl refl)))) in
    absurd (below_irrefl g.stamp (subst (λ (s : Stamp). Below s g.stamp) e (r.0 (delivered_of g) (inl refl))))

module _ (start : Op → ℕ → Start) (n registers p : ℕ) (laws : KeepsLaws start) (l : p < n) (events later : List Event) where
  abbrev u : World
  u = whole start n registers events

  abbrev w : World
  w = whole start n registers later

  module _ (none_u : AllAcknowledged n u.nodes) (rest : List First) (grows : w.order ≡ u.order ++ rest) where
    delivered_grows : map delivered_of w.order ≡ map delivered_of u.order ++ map delivered_of rest
    delivered_grows = ap (map delivered_of) grows ∙ map_append delivered_of u.order rest

    rises : Rising (map delivered_of u.order ++ map delivered_of rest)
    rises = subst Rising delivered_grows (order_rises start n registers laws later p l)

    -- what came to the order is no cast of before
    is_new : (f : First) → In f rest → In (made_as f) u.casts → ⊥
    is_new f i old =
        let made : IsMade n u.nodes (delivered_of f) = ((casts_right start n registers laws events).made (made_as f) (in_at (made_as f) u.casts old)).0 in
        let before = made_ordered start n registers laws events none_u p l (delivered_of f) made in
        below_irrefl f.stamp (rising_cut (map delivered_of u.order) (map delivered_of rest) (delivered_of f) (delivered_of f) rises before (in_map delivered_of f rest i))

    -- but one that was made
    is_made : (f : First) → In f rest → In (made_as f) w.casts
    is_made f i =
        let place = in_at f w.order (subst (In f) (sym grows) (in_right f u.order rest i)) in
        at_in (made_as f) w.casts ((order_right start n registers laws later).made place.0 f place.1)

    -- with no cast more
    pub order_kept : w.casts ≡ u.casts → rest ≡ []
    order_kept same = none_in rest (λ f i. is_new f i (subst (In (made_as f)) same (is_made f i)))

    -- with one cast more, whose time is later than the clock of its process was
    pub order_more : (c : Cast) → w.casts ≡ u.casts ++ c ∷ [] → AllAcknowledged n w.nodes → c.stamp.time ≡ (u.nodes p).state.clock + 1 → (f : First) × (rest ≡ f ∷ []) × (made_as f ≡ c)
    order_more c more none_w time = one_of c rest (rising_end (map delivered_of u.order) (map delivered_of rest) rises)
        (λ f i. elim (in_cases (made_as f) u.casts (c ∷ []) (subst (In (made_as f)) more (is_made f i))) [
          | inl old ↦ absurd (is_new f i old)
          | inr new ↦ elim new [ inl e ↦ e | inr none ↦ absurd none ]
        ])
        (λ empty.
        let d : Delivered = record { stamp = c.stamp; op = c.op } in
        let made : IsMade n w.nodes d = ((casts_right start n registers laws later).made c (in_at c w.casts (subst (In c) (sym more) (in_right c u.casts (c ∷ []) (inl refl))))).0 in
        let ordered = made_ordered start n registers laws later none_w p l d made in
        elim (in_cases d (map delivered_of u.order) (map delivered_of rest) (subst (In d) delivered_grows ordered)) [
          | inl before ↦ let past = order_past start n registers laws events none_u p l d before in absurd (omega (arith, past, time))
          | inr after ↦ absurd (subst (λ fs. In d (map delivered_of fs)) empty after)
        ])
