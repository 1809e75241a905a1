-- Runs in which each process makes the same steps have one witness.
use Rattle.std.proofs.Common.{◌≡◌, ℕ, zero, suc, ◌<◌, List, [], ◌∷◌, ◌++◌, length, map, Some, refl, sym, ap, ◌∙◌, subst}
use Rattle.std.proofs.Common.{inl, inr, arith, length-append}
use Rattle.std.specs.Prelude.{slice_get}
use Rattle.std.proofs.lemmas.List.{append-nil, length-map}
use Rattle.std.proofs.lemmas.Option.{same_Some}
use Rattle.reg_base.specs.declared.memory.Op.{Op}
use Rattle.reg_base.specs.declared.memory.OpId.{OpId}
use Rattle.reg_base.specs.declared.stamps.Delivered.{Delivered as Delivery}
use Rattle.reg_base.specs.Memory.{IsUpdate}
use Rattle.reg_base.specs.Order.{In, IsPrefixOf}
use Rattle.reg_front.specs.declared.starts.Start.{Start}
use Rattle.reg_front.specs.Fronts.{KeepsLaws}
use Rattle.reg_process.specs.declared.events.Event.{Event}
use Rattle.reg_checkers.specs.declared.entries.Entry.TheVariants.{Answered}
use Rattle.reg_checkers.specs.History.{IsAt, IsFinished}
use Rattle.reg_checkers.proofs.Places.{IsAt-map, at_map}
use Rattle.reg_world.specs.declared.order.First.{First}
use Rattle.reg_world.specs.declared.order.CopyRead.{CopyRead}
use Rattle.reg_world.specs.Runs.{Cast, IsWaiting}
use Rattle.reg_world.specs.Keys.{Key, key, IsBelow, IsKept, HasKey, Copied, Delivered, Lost, Keyed, IsWitness}
use Rattle.reg_world.specs.World.{World, delivered_of, run_of, whole}
use Rattle.reg_world.proofs.run.Traced.{Called as PastCall, Answered as PastAnswer, Trace, traced}
use Rattle.reg_world.proofs.lists.Members.{in_at, at_in, in_map, map_in}
use Rattle.reg_world.proofs.one_memory.Joined.{Joined}
use Rattle.reg_world.proofs.one_memory.Added.{IsPastCall, IsPastAnswer, cast_of_first}
use Rattle.reg_world.proofs.witness.Premises.{J, first_at, one_id}
use Rattle.reg_world.proofs.witness.Promised.{longest, order_right}
use Rattle.reg_world.proofs.witness.Once.{below_not_above}
use Rattle.reg_records.specs.Steps.{HaveSameSteps}
use Rattle.reg_records.proofs.Lives.{Asked, Told, Life, asked, told, lives, life_in, life_is}

-- two lists of casts of which each is a prefix of the other
same_prefixes : (xs ys : List Delivery) → IsPrefixOf xs ys → IsPrefixOf ys xs → xs ≡ ys
same_prefixes xs ys (xs_rest, e) (ys_rest, f) = go xs_rest e
  where
    go : (rest : List Delivery) → xs ++ rest ≡ ys → xs ≡ ys
    go [] g = sym (append-nil xs) ∙ g
    go (x ∷ rest) g =
        let a = ap length g in
        let b = ap length f in
        let c = length-append xs (x ∷ rest) in
        let d = length-append ys ys_rest in
        absurd (omega (arith, a, b, c, d))

nothing_in : (xs : List Delivery) → ((k : ℕ) (c : Delivery) → slice_get xs k ≡ Some c → ⊥) → xs ≡ []
nothing_in [] h = refl
nothing_in (x ∷ xs) h = absurd (h 0 x refl)

-- what one of the runs has, the other has too
module _ (start : Op → ℕ → Start) (n registers : ℕ) (laws : KeepsLaws start) (a b : List Event) (same : HaveSameSteps start n registers a b) where
  abbrev Wa : World
  Wa = whole start n registers a

  abbrev Wb : World
  Wb = whole start n registers b

  abbrev Va : Trace
  Va = traced start n registers a

  abbrev Vb : Trace
  Vb = traced start n registers b

  Ja : Joined n Wa Va.pasts
  Ja = J start n registers laws a

  Jb : Joined n Wb Vb.pasts
  Jb = J start n registers laws b

  same_life : (p : ℕ) → p < n → life_in Va p ≡ life_in Vb p
  same_life p l = life_is start n registers a p ∙ (ap (lives start (life_in (traced start n registers []) p)) (same p l) ∙ sym (life_is start n registers b p))

  call_in : (id : OpId) (d : PastCall) → IsPastCall n Va.pasts id d → (f : PastCall) × IsPastCall n Vb.pasts id f × (asked f ≡ asked d)
  call_in id d h =
      let calls = ap (λ (x : Life). x.calls) (same_life id.process h.0) in
      let r = at_map asked (Vb.pasts id.process).calls id.number (asked d) (ap (λ l. slice_get l id.number) (sym calls) ∙ IsAt-map asked (Va.pasts id.process).calls id.number d h.1) in
      (r.0, (h.0, r.1), r.2)

  answer_in : (id : OpId) (x : PastAnswer) → IsPastAnswer n Va.pasts id x → (y : PastAnswer) × IsPastAnswer n Vb.pasts id y × (y.reply ≡ x.reply)
  answer_in id x h =
      let answers = ap (λ (z : Life). z.answers) (same_life id.process h.0) in
      let r = map_in told (told x) (Vb.pasts id.process).answers (subst (In (told x)) answers (in_map told x (Va.pasts id.process).answers h.1)) in
      let number = ap (λ (z : Told). z.number) r.2 in
      let reply = ap (λ (z : Told). z.reply) r.2 in
      (r.0, (h.0, r.1, sym number ∙ h.2), sym reply)

  finished_in : (id : OpId) → IsFinished Wa.history id → IsFinished Wb.history id
  finished_in id h =
      let r = Ja.answered h.0 id h.1 (at_in (Answered h.0 id h.1) Wa.history h.2) in
      let y = answer_in id r.0 r.1 in
      (y.0.at, y.0.reply.answer, in_at (Answered y.0.at id y.0.reply.answer) Wb.history (Jb.answers id y.0 y.1))

  cast_in : (c : Cast) → ((k : ℕ) × IsAt Wa.casts k c) → (k : ℕ) × IsAt Wb.casts k c
  cast_in c h =
      let r = Ja.cast c (at_in c Wa.casts h) in
      let f = call_in c.id r.0 r.1 in
      let op : f.0.op ≡ c.op = ap (λ (x : Asked). x.op) f.2 ∙ r.3 in
      let i = Jb.casts c.id f.0 c.stamp f.1 (ap (λ (x : Asked). x.cast) f.2 ∙ r.2) in
      in_at c Wb.casts (subst (λ o. In (record { stamp = c.stamp; id = c.id; op = o }) Wb.casts) op i)

  read_in : (q : CopyRead) → ((k : ℕ) × IsAt Wa.reads k q) → (k : ℕ) × IsAt Wb.reads k q
  read_in q h =
      let r = Ja.read q (at_in q Wa.reads h) in
      let x = answer_in q.id r.0 r.2 in
      let d = call_in q.id r.1 r.3 in
      let place : x.0.reply.place ≡ q.place = ap (λ z. z.place) x.2 ∙ r.4 in
      let i = Jb.reads q.id x.0 d.0 x.1 d.1 (ap (λ (z : Asked). z.cast) d.2 ∙ r.5) in
      in_at q Wb.reads (subst (λ k. In (record { id = q.id; place = k }) Wb.reads) place i)

  order_within : 0 < n → IsPrefixOf (map delivered_of Wa.order) (map delivered_of Wb.order)
  order_within some =
      let one = (longest start n registers laws a).one some in
      let p = one.0 in
      let deliveries : (Wa.nodes p).deliveries ≡ (Wb.nodes p).deliveries = ap (λ (x : Life). x.node.deliveries) (same_life p one.1) in
      subst (λ l. IsPrefixOf l (map delivered_of Wb.order)) (sym deliveries ∙ one.2) ((longest start n registers laws b).each p one.1)

  no_order : n ≡ 0 → map delivered_of Wa.order ≡ []
  no_order none = nothing_in (map delivered_of Wa.order)
      (λ k c at.
      let f = at_map delivered_of Wa.order k c at in
      let q = (order_right start n registers laws a).some k f.0 f.1 in
      let less = q.1 in
      omega (arith, less, none))

-- the same casts stand in the order of both
same_order : (start : Op → ℕ → Start) (n registers : ℕ) → KeepsLaws start → (a b : List Event)
    → HaveSameSteps start n registers a b
    → map delivered_of (whole start n registers a).order ≡ map delivered_of (whole start n registers b).order
same_order start n registers laws a b same = go n refl
  where
    back : HaveSameSteps start n registers b a
    back p l = sym (same p l)

    go : (m : ℕ) → n ≡ m → map delivered_of (whole start n registers a).order ≡ map delivered_of (whole start n registers b).order
    go zero e = no_order start n registers laws a b same e ∙ sym (no_order start n registers laws b a back e)
    go (suc m) e =
        same_prefixes (map delivered_of (whole start n registers a).order) (map delivered_of (whole start n registers b).order)
        (order_within start n registers laws a b same (omega (arith, e))) (order_within start n registers laws b a back (omega (arith, e)))

-- a cast that stands in the order of one stands at its place in that of the other
first_in : (start : Op → ℕ → Start) (n registers : ℕ) (laws : KeepsLaws start) (a b : List Event)
    → HaveSameSteps start n registers a b → (k : ℕ) (f : First) → IsAt (whole start n registers a).order k f
    → (g : First) × IsAt (whole start n registers b).order k g × (g.id ≡ f.id) × (g.op ≡ f.op)
first_in start n registers laws a b same k f at =
    let Wb = whole start n registers b in
    let there = IsAt-map delivered_of (whole start n registers a).order k f at in
    let g = at_map delivered_of Wb.order k (delivered_of f) (subst (λ l. slice_get l k ≡ Some (delivered_of f)) (same_order start n registers laws a b same) there) in
    let here = cast_in start n registers laws a b same (cast_of_first f) (first_at start n registers laws a k f at) in
    let id = one_id start n registers laws b (cast_of_first g.0) (cast_of_first f) (first_at start n registers laws b k g.0 g.1) here (ap (λ (d : Delivery). d.stamp) g.2) in
    (g.0, g.1, id, ap (λ (d : Delivery). d.op) g.2)

-- what has a key in one has it in the other
key_in : (start : Op → ℕ → Start) (n registers : ℕ) (laws : KeepsLaws start) (a b : List Event)
    → HaveSameSteps start n registers a b → (id : OpId) (k : Key)
    → HasKey (run_of registers (whole start n registers a)) id k
    → HasKey (run_of registers (whole start n registers b)) id k
key_in start n registers laws a b same id k (Copied q at is e) =
    Copied q (read_in start n registers laws a b same q at) is e
key_in start n registers laws a b same id k (Delivered place c at is kept e) =
    let g = first_in start n registers laws a b same place c at in
    Delivered place g.0 g.1 (g.2 ∙ is) (go g.0 g.2 g.3 kept) e
  where
    go : (g : First) → g.id ≡ c.id → g.op ≡ c.op → IsKept (run_of registers (whole start n registers a)) c → IsKept (run_of registers (whole start n registers b)) g
    go g same_id op (inl update) = inl (subst IsUpdate (sym op) update)
    go g same_id op (inr finished) = inr (subst (IsFinished (whole start n registers b).history) (sym same_id) (finished_in start n registers laws a b same c.id finished))
key_in start n registers laws a b same id k (Lost d at is waits finished e) =
    Lost d (cast_in start n registers laws a b same d at) is waits_too (finished_in start n registers laws a b same id finished) (e ∙ ap (λ m. key m 2 d.stamp.time d.stamp.process) count)
  where
    Wa : World
    Wa = whole start n registers a

    Wb : World
    Wb = whole start n registers b

    waits_too : IsWaiting (run_of registers Wb) id
    waits_too place c there is_it =
        let f = first_in start n registers laws b a (λ p l. sym (same p l)) place c there in
        waits place f.0 f.1 (f.2 ∙ is_it)

    count : length Wa.order ≡ length Wb.order
    count = sym (length-map Wa.order delivered_of) ∙ (ap length (same_order start n registers laws a b same) ∙ length-map Wb.order delivered_of)

abbrev Rises : List Keyed → Type 0
Rises w = (i j : ℕ) (x y : Keyed) → IsAt w i x → IsAt w j y → i < j → IsBelow x.key y.key

abbrev Within : List Keyed → List Keyed → Type 0
Within v w = (x : Keyed) (i : ℕ) → IsAt v i x → (j : ℕ) × IsAt w j x

rest_rises : (x : Keyed) (w : List Keyed) → Rises (x ∷ w) → Rises w
rest_rises x w rises i j y z at1 at2 less = rises (suc i) (suc j) y z at1 at2 (omega (arith, less))

-- the first of one rising list is the first of another with the same members
same_first : (x y : Keyed) (v w : List Keyed) → Rises (x ∷ v) → Rises (y ∷ w) → Within (x ∷ v) (y ∷ w)
    → Within (y ∷ w) (x ∷ v) → x ≡ y
same_first x y v w up1 up2 into back = go (into x 0 refl) (back y 0 refl)
  where
    go : ((j : ℕ) × IsAt (y ∷ w) j x) → ((i : ℕ) × IsAt (x ∷ v) i y) → x ≡ y
    go (zero, at) other = sym (same_Some y x at)
    go (suc j, at) (zero, at2) = same_Some x y at2
    go (suc j, at) (suc i, at2) = absurd (below_not_above x.key y.key (up1 0 (suc i) x y refl at2 (omega arith)) (up2 0 (suc j) y x refl at (omega arith)))

-- what stands behind the first of one stands behind that of the other
rest_within : (x y : Keyed) (v w : List Keyed) → x ≡ y → Rises (x ∷ v) → Within (x ∷ v) (y ∷ w) → Within v w
rest_within x y v w first up into z i at = go (into z (suc i) at)
  where
    go : ((j : ℕ) × IsAt (y ∷ w) j z) → (j : ℕ) × IsAt w j z
    go (zero, there) =
        let is : x ≡ z = first ∙ same_Some y z there in
        let below = up 0 (suc i) x z refl at (omega arith) in
        let self : IsBelow z.key z.key = subst (λ (k : Keyed). IsBelow k.key z.key) is below in
        absurd (below_not_above z.key z.key self self)
    go (suc j, there) = (j, there)

-- a rising list is decided by its members
same_lists : (v w : List Keyed) → Rises v → Rises w → Within v w → Within w v → v ≡ w
same_lists [] [] up1 up2 into back = refl
same_lists [] (y ∷ w) up1 up2 into back = let r = back y 0 refl in let bad : ⊥ = nowhere r.0 r.1 in absurd bad
  where
    nowhere : (k : ℕ) → IsAt [] k y → ⊥
    nowhere k h = cc
same_lists (x ∷ v) [] up1 up2 into back = let r = into x 0 refl in let bad : ⊥ = nowhere r.0 r.1 in absurd bad
  where
    nowhere : (k : ℕ) → IsAt [] k x → ⊥
    nowhere k h = cc
same_lists (x ∷ v) (y ∷ w) up1 up2 into back =
    let first = same_first x y v w up1 up2 into back in
    let rest = same_lists v w (rest_rises x v up1) (rest_rises y w up2) (rest_within x y v w first up1 into) (rest_within y x w v (sym first) up2 back) in
    (λ i. first i ∷ rest i)

-- the witnesses of both are one list
pub one_witness : (start : Op → ℕ → Start) (n registers : ℕ) (a b : List Event) (ids others : List OpId)
    → KeepsLaws start → HaveSameSteps start n registers a b
    → IsWitness (run_of registers (whole start n registers a)) ids
    → IsWitness (run_of registers (whole start n registers b)) others → ids ≡ others
one_witness start n registers a b ids others laws same (v, keyed, is) (w, keyed_too, is_too) =
    is ∙ (ap (map (λ (e : Keyed). e.id)) (same_lists v w keyed.rising keyed_too.rising
    (λ x i at. keyed_too.all x (key_in start n registers laws a b same x.id x.key (keyed.each i x at)))
    (λ x i at. keyed.all x (key_in start n registers laws b a (λ p l. sym (same p l)) x.id x.key (keyed_too.each i x at)))) ∙ sym is_too)
