-- The order of first deliveries is the longest list of deliveries.
use Rattle.std.proofs.Common.{◌≡◌, ℕ, suc, ◌<◌, Bool, true, false, not, List, [], ◌∷◌, ◌++◌, Option, Some, None, refl}
use Rattle.std.proofs.Common.{sym, ap, ◌∙◌, subst, inl, inr}
use Rattle.std.specs.Prelude.{◌==◌, ◌&&◌}
use Rattle.std.specs.List.{list_any}
use Rattle.std.proofs.lemmas.Bool.{cases_Bool, cases_eq, eqb-true, eq-eqb, and_parts, and_from, or_cases, or_left}
use Rattle.std.proofs.lemmas.Bool.{or_right, not-true, false≢true}
use Rattle.std.proofs.lemmas.List.{append-nil}
use Rattle.reg_base.specs.declared.stamps.Stamp.{Stamp}
use Rattle.reg_base.specs.declared.memory.Op.{Op}
use Rattle.reg_base.specs.declared.stamps.Delivered.{Delivered}
use Rattle.reg_front.specs.declared.starts.Start.{Start}
use Rattle.reg_process.specs.declared.steps.Step.{Step}
use Rattle.reg_base.specs.Order.{Below, In, Rising, IsPrefixOf}
use Rattle.reg_process.specs.Process.{step}
use Rattle.reg_world.specs.Nodes.{Node, Nodes, put, after_step, unseen}
use Rattle.reg_world.specs.NodeParts.{nodes_after}
use Rattle.reg_world.proofs.run.Traced.{Trace, First, casts_of, firsts, order_after}
use Rattle.reg_world.specs.Laws.{IsMade}
use Rattle.reg_base.proofs.Orders.{same_stamp, below_irrefl}
use Rattle.reg_base.proofs.Lists.{in_left, in_right, in_cases, in_filter, filter_in, rising_filter, rising_append}
use Rattle.reg_base.proofs.Lists.{Closed, prefixes}
use Rattle.reg_process.proofs.Peers.{clear_below}
use Rattle.reg_world.proofs.one_order.Worlds.{Inv, made_once, delivered_made, undelivered_above, clear_is_delivered}
use Rattle.reg_world.proofs.one_order.Acts.{put_cases, inv_act}
use Rattle.reg_world.proofs.one_order.NodeEvents.{put_same, put_other}
use Rattle.reg_world.proofs.one_order.Runs.{StepKept}

same_test : Delivered → Delivered → Bool
same_test c d = (d.stamp.time == c.stamp.time) && (d.stamp.process == c.stamp.process)

-- the test finds a cast of that stamp
found : (c : Delivered) (xs : List Delivered) → list_any (same_test c) xs ≡ true
    → (d : Delivered) × In d xs × (d.stamp ≡ c.stamp)
unfolding same_test
found c [] h = absurd (false≢true h)
found c (x ∷ xs) h = elim (or_cases (same_test c x) (list_any (same_test c) xs) h) [
  | inl e ↦ let r = and_parts _ _ e in (x, inl refl, same_stamp x.stamp c.stamp (eqb-true _ _ r.0) (eqb-true _ _ r.1))
  | inr e ↦ let r = found c xs e in (r.0, inr r.1, r.2)
]

finds : (c d : Delivered) (xs : List Delivered) → In d xs → d.stamp ≡ c.stamp → list_any (same_test c) xs ≡ true
unfolding same_test
finds c d [] h e = absurd h
finds c d (x ∷ xs) (inl q) e =
    let s : x.stamp ≡ c.stamp = ap (λ (z : Delivered). z.stamp) (sym q) ∙ e in
    or_left (same_test c x) (list_any (same_test c) xs) (and_from _ _ (eq-eqb _ _ (ap (λ (z : Stamp). z.time) s)) (eq-eqb _ _ (ap (λ (z : Stamp). z.process) s)))
finds c d (x ∷ xs) (inr q) e = or_right (same_test c x) (list_any (same_test c) xs) (finds c d xs q e)

-- the casts of the order rise, and are those of the deliveries
pub record Ordered (n : ℕ) (w : Nodes) (order : List Delivered) : Type 0 where
  pub rises : Rising order
  pub some : (c : Delivered) → In c order → (q : ℕ) × (q < n) × In c (w q).deliveries
  pub all : (q : ℕ) (c : Delivered) → q < n → In c (w q).deliveries → In c order

pub rising_cut : (xs ys : List Delivered) (x y : Delivered) → Rising (xs ++ ys) → In x xs → In y ys
    → Below x.stamp y.stamp
rising_cut [] ys x y r i j = absurd i
rising_cut (z ∷ xs) ys x y r (inl e) j =
    subst (λ (c : Delivered). Below c.stamp y.stamp) (sym e) (r.0 y (in_right y xs ys j))
rising_cut (z ∷ xs) ys x y r (inr i) j = rising_cut xs ys x y r.1 i j

pub rising_end : (xs ys : List Delivered) → Rising (xs ++ ys) → Rising ys
rising_end [] ys r = r
rising_end (x ∷ xs) ys r = rising_end xs ys r.1

ordered_acts : (n registers k : ℕ) (w : Nodes) (p : ℕ) (y : Node) (ds : List Delivered) (order : List Delivered) → p < n
    → Inv n registers k w → Inv n registers (suc k) (put w p y) → y.deliveries ≡ (w p).deliveries ++ ds
    → Ordered n w order → Ordered n (put w p y) (order ++ unseen order ds)
unfolding same_test
ordered_acts n registers k w p y ds order l I J g O =
    let w' = put w p y in
    let at_p : (w' p).deliveries ≡ (w p).deliveries ++ ds = ap (λ (z : Node). z.deliveries) (put_same w p y p refl) ∙ g in
    let rises_p : Rising ((w p).deliveries ++ ds) = subst Rising at_p (J.local p l).deliveries_rise in
    let grows : (q : ℕ) (c : Delivered) → In c (w q).deliveries → In c (w' q).deliveries =
    λ q c h. put_cases (λ (z : Node). In c z.deliveries) w p y q (λ e. subst (In c) (sym g) (in_left c (w p).deliveries ds (subst (λ r. In c (w r).deliveries) e h))) (λ ne. h) in
    let new_is : (c : Delivered) → In c (unseen order ds) → In c ds × (list_any (same_test c) order ≡ false) =
    λ c h. let r = in_filter c (λ c. not (list_any (same_test c) order)) ds h in (r.0, not-true _ r.1) in
    let fresh : (c d : Delivered) → In c (unseen order ds) → In d order → d.stamp ≡ c.stamp → ⊥ =
    λ c d h i e. let x = finds c d order i e in let y' = (new_is c h).1 in let bad : ⊥ = false≢true (sym y' ∙ x) in bad in
    let in_p : (c : Delivered) → In c ds → In c (w' p).deliveries = λ c h. subst (In c) (sym at_p) (in_right c (w p).deliveries ds h) in
    record {
      rises = rising_append order (unseen order ds) O.rises (rising_filter (λ c. not (list_any (same_test c) order)) ds (rising_end (w p).deliveries ds rises_p))
          (λ o c i j.
          let s = O.some o i in
          let q = s.0 in
          elim (cases_eq q p) [
            | inl e ↦ rising_cut (w p).deliveries ds o c rises_p (subst (λ r. In o (w r).deliveries) e s.2) (new_is c j).0
            | inr ne ↦ undelivered_above n registers (suc k) w' J q s.1 c o (delivered_made n registers (suc k) w' J p l c (in_p c (new_is c j).0))
                (λ h. fresh c c j (O.all q c s.1 (subst (In c) (ap (λ (z : Node). z.deliveries) (put_other w p y q ne)) h)) refl)
                (grows q o s.2)
          ]);
      some = λ c h. elim (in_cases c order (unseen order ds) h) [
        | inl i ↦ let s = O.some c i in (s.0, s.1, grows s.0 c s.2)
        | inr i ↦ (p, l, in_p c (new_is c i).0)
      ];
      all = λ q c m h. put_cases (λ (z : Node). In c z.deliveries → In c (order ++ unseen order ds)) w p y q
          (λ e h'. elim (in_cases c (w p).deliveries ds (subst (In c) g h')) [
            | inl i ↦ in_left c order _ (O.all p c l i)
            | inr i ↦ elim (cases_Bool (list_any (same_test c) order)) [
              | inl t ↦
                  let f = found c order t in
                  let s = O.some f.0 f.1 in
                  let same = made_once n registers (suc k) w' J f.0 c (delivered_made n registers (suc k) w' J s.0 s.1 f.0 (grows s.0 f.0 s.2)) (delivered_made n registers (suc k) w' J p l c (in_p c i)) f.2 in
                  in_left c order _ (subst (λ z. In z order) same f.1)
              | inr t ↦ in_right c order _ (filter_in c (λ c. not (list_any (same_test c) order)) ds i (ap not t))
            ]
          ])
          (λ ne h'. in_left c order _ (O.all q c m h'))
          h;
    }

pub casts_firsts : (k : ℕ) (order : List First) (cs : List Delivered)
    → casts_of (order ++ firsts k cs) ≡ casts_of order ++ cs
casts_firsts k [] [] = refl
casts_firsts k [] (c ∷ cs) = ap (λ l. c ∷ l) (casts_firsts k [] cs)
casts_firsts k (f ∷ order) cs = ap (λ l. f.cast ∷ l) (casts_firsts k order cs)

pub ordered_after : (start : Op → ℕ → Start) (n registers k : ℕ) (w : Trace) (m : Option (ℕ × Step))
    → Inv n registers k w.nodes → StepKept start n registers k w.nodes m → Ordered n w.nodes (casts_of w.order)
    → Ordered n (nodes_after start w.nodes m) (casts_of (order_after start w m))
ordered_after start n registers k w None I K O = O
ordered_after start n registers k w (Some m) I K O =
    let ds = (step start (w.nodes m.0).state m.1).1.delivered in
    subst (Ordered n (nodes_after start w.nodes (Some m))) (sym (casts_firsts w.count w.order (unseen (casts_of w.order) ds)))
    (ordered_acts n registers k w.nodes m.0 (after_step start (w.nodes m.0) m.1) ds (casts_of w.order) K.0 I (inv_act n registers k m.0 w.nodes _ K.0 I K.1) refl O)

-- of a run so far: k bounds its clocks
pub record WorldInv (n registers k : ℕ) (w : Trace) : Type 0 where
  pub inv : Inv n registers k w.nodes
  pub ordered : Ordered n w.nodes (casts_of w.order)

-- the casts of one of two rising lists with the same members
pub deliveries_prefix : (n registers k : ℕ) (w : Trace) → WorldInv n registers k w → (q : ℕ) → q < n
    → IsPrefixOf (w.nodes q).deliveries (casts_of w.order)
deliveries_prefix n registers k w W q l =
    let I = W.inv in
    let O = W.ordered in
    let order = casts_of w.order in
    let made : (c : Delivered) → In c order → IsMade n w.nodes c = λ c h. let s = O.some c h in delivered_made n registers k w.nodes I s.0 s.1 c s.2 in
    let into : Closed order (w.nodes q).deliveries = λ c d i j b. clear_is_delivered n registers k w.nodes I q l c (made c i) (clear_below (w.nodes q).state c.stamp d.stamp b ((I.local q l).clear d j)) in
    let once : (c d : Delivered) → In c (w.nodes q).deliveries → In d order → c.stamp ≡ d.stamp → c ≡ d = λ c d i j e. made_once n registers k w.nodes I c d (delivered_made n registers k w.nodes I q l c i) (made d j) e in
    elim (prefixes (w.nodes q).deliveries order (I.local q l).deliveries_rise O.rises (λ c d i j b. O.all q c l i) into once) [
      | inl h ↦ h
      | inr h ↦ shorter (w.nodes q).deliveries order h.0 (I.local q l).deliveries_rise h.1 (λ c i. O.all q c l i)
    ]
  where
    -- a longer list has nothing more if all of it stands in the shorter
    shorter : (xs ys rest : List Delivered) → Rising xs → ys ++ rest ≡ xs → ((c : Delivered) → In c xs → In c ys) → IsPrefixOf xs ys
    shorter xs ys [] r e h = ([], append-nil xs ∙ (sym e ∙ append-nil ys))
    shorter xs ys (z ∷ rest) r e h =
        let here : In z xs = subst (In z) e (in_right z ys (z ∷ rest) (inl refl)) in
        absurd (below_irrefl z.stamp (rising_cut ys (z ∷ rest) z z (subst Rising (sym e) r) (h z here) (inl refl)))
