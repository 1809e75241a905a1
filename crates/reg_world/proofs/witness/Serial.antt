-- The witness of a run is a serial order.
use Rattle.std.proofs.Common.{◌≡◌, ◌≢◌, ℕ, zero, suc, ◌<◌, ◌⊎◌, inl, inr, List, [], ◌∷◌, map, length, refl, ap, ap₂}
use Rattle.std.proofs.Common.{sym, ◌∙◌, subst, arith}
use Rattle.std.proofs.lemmas.Bool.{cases_order, cases_eq}
use Rattle.std.proofs.lemmas.Option.{same_Some}
use Rattle.reg_base.specs.declared.memory.OpId.{OpId}
use Rattle.reg_world.specs.declared.order.First.{First}
use Rattle.reg_world.specs.declared.order.CopyRead.{CopyRead}
use Rattle.reg_checkers.specs.History.{IsAt, IsFinished, IsCalled}
use Rattle.reg_checkers.specs.Orders.{IsDistinct, IsLegal, KeepsOwnOrder, IsSerial}
use Rattle.reg_checkers.specs.Table.{MayStand}
use Rattle.reg_world.specs.Runs.{Run, Cast}
use Rattle.reg_world.specs.Keys.{Key, key, IsBelow, HasKey, Copied, Delivered, Lost, Keyed, IsByKeys, IsWitness}
use Rattle.reg_checkers.proofs.Places.{same_at, IsAt-map, at_map}
use Rattle.reg_world.proofs.witness.Walk.{walk, IsLeft}
use Rattle.reg_world.proofs.witness.Legal.{legal_from_walk}
use Rattle.reg_world.proofs.witness.Once.{cast_of, below_not_above, key_once, own_below}
use Rattle.reg_world.proofs.witness.Grounds.{IsRun}

pub same_id : (a b : OpId) → (a ≡ b) ⊎ (a ≢ b)
same_id a b = go (cases_eq a.process b.process) (cases_eq a.number b.number)
  where
    go : (a.process ≡ b.process) ⊎ (a.process ≡ b.process → ⊥) → (a.number ≡ b.number) ⊎ (a.number ≡ b.number → ⊥) → (a ≡ b) ⊎ (a ≢ b)
    go (inl p) (inl n) = inl (ap₂ (λ (x y : ℕ). record { process = x; number = y }) p n)
    go (inl p) (inr n) = inr (λ e. n (ap (λ (x : OpId). x.number) e))
    go (inr p) other = inr (λ e. p (ap (λ (x : OpId). x.process) e))

-- the id stands in the order, or nowhere in it
in_order : (xs : List First) (id : OpId)
    → ((k : ℕ) × (c : First) × IsAt xs k c × (c.id ≡ id)) ⊎ ((k : ℕ) (c : First) → IsAt xs k c → c.id ≢ id)
in_order [] id = inr (λ k c at. absurd cc)
in_order (x ∷ xs) id = go (same_id x.id id) (in_order xs id)
  where
    here : (x.id ≢ id) → ((k : ℕ) (c : First) → IsAt xs k c → c.id ≢ id) → (k : ℕ) (c : First) → IsAt (x ∷ xs) k c → c.id ≢ id
    here no_x others zero c at e = no_x (ap (λ (d : First). d.id) (same_Some x c at) ∙ e)
    here no_x others (suc k) c at e = others k c at e

    go : (x.id ≡ id) ⊎ (x.id ≢ id) → ((k : ℕ) × (c : First) × IsAt xs k c × (c.id ≡ id)) ⊎ ((k : ℕ) (c : First) → IsAt xs k c → c.id ≢ id)
        → ((k : ℕ) × (c : First) × IsAt (x ∷ xs) k c × (c.id ≡ id)) ⊎ ((k : ℕ) (c : First) → IsAt (x ∷ xs) k c → c.id ≢ id)
    go (inl e) other = inl (0, x, refl, e)
    go (inr e) (inl found) = inl (suc found.0, found.1, found.2, found.3)
    go (inr e) (inr none) = inr (here e none)

-- a finished operation has a key
pub finished_has_key : (r : Run) → IsRun r → (id : OpId) → IsFinished r.history id → (k : Key) × HasKey r id k
finished_has_key r ok id fin = go (ok.finished id fin)
  where
    cast : (d : Cast) → ((k : ℕ) × IsAt r.casts k d) → d.id ≡ id → ((k : ℕ) × (c : First) × IsAt r.order k c × (c.id ≡ id)) ⊎ ((k : ℕ) (c : First) → IsAt r.order k c → c.id ≢ id) → (k : Key) × HasKey r id k
    cast d in' is (inl f) = (key f.0 1 0 0, Delivered f.0 f.1 f.2 f.3 (inr (subst (λ (x : OpId). IsFinished r.history x) (sym f.3) fin)) refl)
    cast d in' is (inr waits) = (key (length r.order) 2 d.stamp.time d.stamp.process, Lost d in' is waits fin refl)

    go : ((d : Cast) × ((k : ℕ) × IsAt r.casts k d) × (d.id ≡ id)) ⊎ ((q : CopyRead) × ((k : ℕ) × IsAt r.reads k q) × (q.id ≡ id)) → (k : Key) × HasKey r id k
    go (inl d) = cast d.0 d.1 d.2 (in_order r.order id)
    go (inr q) = (key q.0.place 0 id.process id.number, Copied q.0 q.1 q.2 refl)

-- what has a key may stand in an order
key_may_stand : (r : Run) → IsRun r → (id : OpId) (k : Key) → HasKey r id k → MayStand r.history id
key_may_stand r ok id k (Copied q in' is e) =
    inl (subst (λ (x : OpId). IsFinished r.history x) is (ok.copied q in').finished)
key_may_stand r ok id k (Delivered n c at is (inl up) e) =
    let made = ok.called (cast_of c) (ok.delivered n c at) in
    inr (made.0, c.op, subst (λ (x : OpId). IsCalled r.history x made.0 c.op) is made.1, up)
key_may_stand r ok id k (Delivered n c at is (inr fin) e) = inl (subst (λ (x : OpId). IsFinished r.history x) is fin)
key_may_stand r ok id k (Lost d in' is waits fin e) = inl fin

module _ (r : Run) (ok : IsRun r) (w : List Keyed) (keyed : IsByKeys r w) where
  -- what the place of an id tells
  place_has_key : (k : ℕ) (id : OpId) → IsAt (map (λ e. e.id) w) k id → (e : Keyed) × IsAt w k e × (e.id ≡ id) × HasKey r id e.key
  place_has_key k id at =
      let found = at_map (λ (e : Keyed). e.id) w k id at in
      (found.0, found.1, found.2, subst (λ (x : OpId). HasKey r x found.0.key) found.2 (keyed.each k found.0 found.1))

  distinct : IsDistinct (map (λ e. e.id) w)
  distinct i j id at1 at2 = go (cases_order i j)
    where
      a : (e : Keyed) × IsAt w i e × (e.id ≡ id) × HasKey r id e.key
      a = place_has_key i id at1

      b : (e : Keyed) × IsAt w j e × (e.id ≡ id) × HasKey r id e.key
      b = place_has_key j id at2

      not_above : (k l : Key) → k ≡ l → IsBelow k l → ⊥
      not_above k l e h = grind arith

      go : (i ≡ j) ⊎ ((i < j) ⊎ (j < i)) → i ≡ j
      go (inl e) = e
      go (inr (inl lt)) = absurd (not_above a.0.key b.0.key (key_once r ok id a.0.key b.0.key a.3 b.3) (keyed.rising i j a.0 b.0 a.1 b.1 lt))
      go (inr (inr gt)) = absurd (not_above b.0.key a.0.key (key_once r ok id b.0.key a.0.key b.3 a.3) (keyed.rising j i b.0 a.0 b.1 a.1 gt))

  finished : (id : OpId) → IsFinished r.history id → (k : ℕ) × IsAt (map (λ e. e.id) w) k id
  finished id fin =
      let has = finished_has_key r ok id fin in
      let found = keyed.all (record { id = id; key = has.0 }) has.1 in
      (found.0, IsAt-map (λ (e : Keyed). e.id) w found.0 (record { id = id; key = has.0 }) found.1)

  known : (k : ℕ) (id : OpId) → IsAt (map (λ e. e.id) w) k id → MayStand r.history id
  known k id at = let found = place_has_key k id at in key_may_stand r ok id found.0.key found.3

  own_order : KeepsOwnOrder (map (λ e. e.id) w)
  own_order i j a b at1 at2 same lt = go (cases_order i j)
    where
      x : (e : Keyed) × IsAt w i e × (e.id ≡ a) × HasKey r a e.key
      x = place_has_key i a at1

      y : (e : Keyed) × IsAt w j e × (e.id ≡ b) × HasKey r b e.key
      y = place_has_key j b at2

      below : IsBelow x.0.key y.0.key
      below = own_below r ok a b x.0.key y.0.key x.3 y.3 same lt

      go : (i ≡ j) ⊎ ((i < j) ⊎ (j < i)) → i < j
      go (inl e) =
          let one : a ≡ b = same_at (map (λ (e : Keyed). e.id) w) j a b (subst (λ (k : ℕ). IsAt (map (λ (e : Keyed). e.id) w) k a) e at1) at2 in
          absurd (not_less one lt)
        where
          not_less : {u v : OpId} → u ≡ v → u.number < v.number → ⊥
          not_less e lt = grind arith
      go (inr (inl h)) = h
      go (inr (inr gt)) = absurd (below_not_above x.0.key y.0.key below (keyed.rising j i y.0 x.0 y.1 x.1 gt))

  legal : IsLegal r.registers r.history (map (λ e. e.id) w)
  legal = legal_from_walk r.registers r.history (map (λ e. e.id) w) (walk r ok w 0 keyed.each keyed.rising all_left)
    where
      all_left : IsLeft r w 0
      all_left = record {
        low = λ i e at. omega arith;
        updates = λ j d le at up.
            let e : Keyed = record { id = d.id; key = key j 1 0 0 } in
            let found = keyed.all e (Delivered j d at refl (inl up) refl) in
            (found.0, e, found.1, refl);
      }

  serial : IsSerial r.registers r.history (map (λ e. e.id) w)
  serial = record {
    selection = record { distinct = distinct; finished = finished; known = known };
    legal = legal;
    own_order = own_order;
  }

pub witness_serial : (r : Run) (ids : List OpId) → IsRun r → IsWitness r ids → IsSerial r.registers r.history ids
witness_serial r ids ok (w, keyed, same) =
    subst (λ (xs : List OpId). IsSerial r.registers r.history xs) (sym same) (serial r ok w keyed)
