-- The first deliveries are a point order.
use Rattle.std.proofs.Common.{◌≡◌, ℕ, zero, suc, ◌+◌, ◌<◌, ◌≤◌, inl, List, [], ◌∷◌, map, Some, refl, ap, sym, ◌∙◌}
use Rattle.std.proofs.Common.{subst, arith}
use Rattle.std.proofs.lemmas.Option.{same_Some}
use Rattle.reg_base.specs.declared.memory.OpId.{OpId}
use Rattle.reg_base.specs.declared.memory.Op.{Op}
use Rattle.reg_base.specs.declared.memory.Answer.{Answer}
use Rattle.reg_world.specs.declared.order.First.{First}
use Rattle.reg_checkers.specs.declared.entries.Point.{Point}
use Rattle.reg_checkers.specs.History.{IsAt, IsCalled, IsAnswered}
use Rattle.reg_checkers.specs.Orders.{IsSerial, IsPointOrder}
use Rattle.reg_world.specs.Runs.{Run}
use Rattle.reg_world.specs.Keys.{Key, key, IsBelow, IsKept, HasKey, Copied, Delivered, Lost, Keyed, IsByKeys, Keeps}
use Rattle.reg_world.specs.Keys.{Nothing, Takes, Leaves, ArePoints}
use Rattle.reg_checkers.proofs.Places.{at_map}
use Rattle.reg_world.proofs.witness.Once.{cast_of}
use Rattle.reg_world.proofs.witness.Serial.{witness_serial}
use Rattle.reg_world.proofs.witness.Grounds.{IsRun, IsRealTime}

-- what is kept stood in the list, and in the same order
pub keeps_at : {X : Type 0} {P : X → Type 0} {xs ys : List X} → Keeps P xs ys → (i : ℕ) (y : X) → IsAt ys i y
    → (k : ℕ) × IsAt xs k y
keeps_at Nothing i y at = absurd cc
keeps_at (Leaves out rest) i y at = let r = keeps_at rest i y at in (suc r.0, r.1)
keeps_at (Takes here rest) zero y at = (0, at)
keeps_at (Takes here rest) (suc i) y at = let r = keeps_at rest i y at in (suc r.0, r.1)

pub keeps_order : {X : Type 0} {P : X → Type 0} {xs ys : List X} → Keeps P xs ys → (i j : ℕ) (a b : X) → IsAt ys i a
    → IsAt ys j b → i < j
    → (k : ℕ) × (l : ℕ) × IsAt xs k a × IsAt xs l b × (k < l)
keeps_order Nothing i j a b at1 at2 lt = absurd cc
keeps_order (Leaves out rest) i j a b at1 at2 lt =
    let r = keeps_order rest i j a b at1 at2 lt in (suc r.0, suc r.1, r.2, r.3, omega (arith, r.4))
keeps_order (Takes here rest) zero zero a b at1 at2 lt = absurd (omega arith)
keeps_order (Takes here rest) zero (suc j) a b at1 at2 lt =
    let r = keeps_at rest j b at2 in (0, suc r.0, at1, r.1, omega arith)
keeps_order (Takes here rest) (suc i) zero a b at1 at2 lt = absurd (omega arith)
keeps_order (Takes here rest) (suc i) (suc j) a b at1 at2 lt =
    let r = keeps_order rest i j a b at1 at2 (omega arith) in (suc r.0, suc r.1, r.2, r.3, omega (arith, r.4))

-- each kept cast with the key of its place, n being the place of the first
abbrev keyed_of : {P : First → Type 0} {xs ys : List First} → ℕ → Keeps P xs ys → List Keyed
keyed_of n Nothing = []
keyed_of n (Takes {x = x} here rest) = record { id = x.id; key = key n 1 0 0 } ∷ keyed_of (suc n) rest
keyed_of n (Leaves out rest) = keyed_of (suc n) rest

keyed_ids : {P : First → Type 0} {xs ys : List First} (n : ℕ) (k : Keeps P xs ys)
    → map (λ e. e.id) (keyed_of n k) ≡ map (λ c. c.id) ys
keyed_ids n Nothing = refl
keyed_ids n (Takes {x = x} here rest) = ap (λ ids. x.id ∷ ids) (keyed_ids (suc n) rest)
keyed_ids n (Leaves out rest) = keyed_ids (suc n) rest

-- what is known of a keyed cast
abbrev Told : (First → Type 0) → List First → ℕ → Keyed → Type 0
Told P xs n e = (j : ℕ) × (c : First) × IsAt xs j c × P c × (e ≡ record { id = c.id; key = key (n + j) 1 0 0 })

told_next : {P : First → Type 0} (x : First) (xs : List First) (n : ℕ) (e : Keyed) → Told P xs (suc n) e
    → Told P (x ∷ xs) n e
told_next x xs n e (j, c, at, p, is) =
    let sum : suc n + j ≡ n + suc j = omega arith in
    (suc j, c, at, p, is ∙ ap (λ (k : ℕ). record { id = c.id; key = key k 1 0 0 }) sum)

keyed_each : {P : First → Type 0} {xs ys : List First} (n : ℕ) (k : Keeps P xs ys) (i : ℕ) (e : Keyed)
    → IsAt (keyed_of n k) i e → Told P xs n e
keyed_each n Nothing i e at = absurd cc
keyed_each n (Leaves {x = x} {xs = xs} out rest) i e at = told_next x xs n e (keyed_each (suc n) rest i e at)
keyed_each n (Takes {x = x} here rest) zero e at =
    let sum : n ≡ n + 0 = omega arith in
    (0, x, refl, here, sym (same_Some (record { id = x.id; key = key n 1 0 0 }) e at) ∙ ap (λ (k : ℕ). record { id = x.id; key = key k 1 0 0 }) sum)
keyed_each n (Takes {x = x} {xs = xs} here rest) (suc i) e at = told_next x xs n e (keyed_each (suc n) rest i e at)

keyed_all : {P : First → Type 0} {xs ys : List First} (n : ℕ) (k : Keeps P xs ys) (j : ℕ) (c : First) → IsAt xs j c
    → P c
    → (i : ℕ) × IsAt (keyed_of n k) i (record { id = c.id; key = key (n + j) 1 0 0 })
keyed_all n Nothing j c at p = absurd cc
keyed_all n (Takes {x = x} here rest) zero c at p =
    let sum : n ≡ n + 0 = omega arith in
    (0, ap (λ (d : First). Some (record { id = d.id; key = key n 1 0 0 })) (same_Some x c at) ∙ ap (λ (k : ℕ). Some (record { id = c.id; key = key k 1 0 0 })) sum)
keyed_all {P} n (Leaves {x = x} out rest) zero c at p = absurd (out (subst P (sym (same_Some x c at)) p))
keyed_all n (Takes {x = x} here rest) (suc j) c at p =
    let r = keyed_all (suc n) rest j c at p in
    let sum : suc n + j ≡ n + suc j = omega arith in
    (suc r.0, r.1 ∙ ap (λ (k : ℕ). Some (record { id = c.id; key = key k 1 0 0 })) sum)
keyed_all n (Leaves {x = x} out rest) (suc j) c at p =
    let r = keyed_all (suc n) rest j c at p in
    let sum : suc n + j ≡ n + suc j = omega arith in
    (r.0, r.1 ∙ ap (λ (k : ℕ). Some (record { id = c.id; key = key k 1 0 0 })) sum)

later_place : {P : First → Type 0} (xs : List First) (n m : ℕ) (e : Keyed) → Told P xs n e → m < n
    → IsBelow (key m 1 0 0) e.key
later_place xs n m e (j, c, at, p, is) lt =
    let place : e.key.place ≡ n + j = ap (λ (f : Keyed). f.key.place) is in inl (omega arith)

keyed_rising : {P : First → Type 0} {xs ys : List First} (n : ℕ) (k : Keeps P xs ys) (i j : ℕ) (a b : Keyed)
    → IsAt (keyed_of n k) i a → IsAt (keyed_of n k) j b → i < j → IsBelow a.key b.key
keyed_rising n Nothing i j a b at1 at2 lt = absurd cc
keyed_rising n (Leaves out rest) i j a b at1 at2 lt = keyed_rising (suc n) rest i j a b at1 at2 lt
keyed_rising n (Takes here rest) zero zero a b at1 at2 lt = absurd (omega arith)
keyed_rising n (Takes {x = x} {xs = xs} here rest) zero (suc j) a b at1 at2 lt =
    subst (λ (e : Keyed). IsBelow e.key b.key) (same_Some (record { id = x.id; key = key n 1 0 0 }) a at1) (later_place xs (suc n) n b (keyed_each (suc n) rest j b at2) (omega arith))
keyed_rising n (Takes here rest) (suc i) zero a b at1 at2 lt = absurd (omega arith)
keyed_rising n (Takes here rest) (suc i) (suc j) a b at1 at2 lt =
    keyed_rising (suc n) rest i j a b at1 at2 (omega arith)

abbrev point_of : First → Point
point_of c = record { id = c.id; at = c.at }

module _ (r : Run) (ok : IsRun r) (real : IsRealTime r) (cs : List First) (kept : Keeps (IsKept r) r.order cs) where
  by_keys : IsByKeys r (keyed_of 0 kept)
  by_keys = record { each = each; all = all; rising = keyed_rising 0 kept }
    where
      each : (i : ℕ) (e : Keyed) → IsAt (keyed_of 0 kept) i e → HasKey r e.id e.key
      each i e at = go (keyed_each 0 kept i e at)
        where
          go : Told (IsKept r) r.order 0 e → HasKey r e.id e.key
          go (j, c, there, p, is) =
              let sum : 0 + j ≡ j = omega arith in
              Delivered j c there (sym (ap (λ (f : Keyed). f.id) is)) p (ap (λ (f : Keyed). f.key) is ∙ ap (λ (k : ℕ). key k 1 0 0) sum)

      all : (e : Keyed) → HasKey r e.id e.key → (i : ℕ) × IsAt (keyed_of 0 kept) i e
      all e has = go has
        where
          go : HasKey r e.id e.key → (i : ℕ) × IsAt (keyed_of 0 kept) i e
          go (Copied q in' is k) =
              let facts = ok.copied q in' in
              let found = real.all_delivered q.id facts.finished in
              absurd (facts.no_cast (cast_of found.1) (ok.delivered found.0 found.1 found.2) found.3)
          go (Delivered j c at is p k) =
              let found = keyed_all 0 kept j c at p in
              let sum : 0 + j ≡ j = omega arith in
              (found.0, found.1 ∙ (ap (λ (n : ℕ). Some (record { id = c.id; key = key n 1 0 0 })) sum ∙ (ap (λ (x : OpId). Some (record { id = x; key = key j 1 0 0 })) is ∙ ap (λ (x : Key). Some (record { id = e.id; key = x })) (sym k))))
          go (Lost d in' is waits fin k) =
              let found = real.all_delivered e.id fin in
              absurd (waits found.0 found.1 found.2 found.3)

  ids_same : (xs : List First) → map (λ c. c.id) xs ≡ map (λ p. p.id) (map point_of xs)
  ids_same [] = refl
  ids_same (x ∷ xs) = ap (λ ids. x.id ∷ ids) (ids_same xs)

  serial : IsSerial r.registers r.history (map (λ p. p.id) (map point_of cs))
  serial = witness_serial r (map (λ p. p.id) (map point_of cs)) ok (keyed_of 0 kept, by_keys, sym (keyed_ids 0 kept ∙ ids_same cs))

  called : (k : ℕ) (p : Point) (t : ℕ) (op : Op) → IsAt (map point_of cs) k p → IsCalled r.history p.id t op → t ≤ p.at
  called k p t op at =
      let c = at_map point_of cs k p at in
      let there = keeps_at kept k c.0 c.1 in
      subst (λ (q : Point). IsCalled r.history q.id t op → t ≤ q.at) c.2 (λ is. real.after_call there.0 c.0 t op there.1 is)

  answered : (k : ℕ) (p : Point) (t : ℕ) (answer : Answer) → IsAt (map point_of cs) k p → IsAnswered r.history p.id t answer → p.at ≤ t
  answered k p t answer at =
      let c = at_map point_of cs k p at in
      let there = keeps_at kept k c.0 c.1 in
      subst (λ (q : Point). IsAnswered r.history q.id t answer → q.at ≤ t) c.2 (λ is. real.before_answer there.0 c.0 t answer there.1 is)

  rising : (i j : ℕ) (p q : Point) → IsAt (map point_of cs) i p → IsAt (map point_of cs) j q → i < j → p.at ≤ q.at
  rising i j p q at1 at2 lt =
      let a = at_map point_of cs i p at1 in
      let b = at_map point_of cs j q at2 in
      let places = keeps_order kept i j a.0 b.0 a.1 b.1 lt in
      let le = real.never_falls places.0 places.1 a.0 b.0 places.2 places.3 places.4 in
      let ea : a.0.at ≡ p.at = ap (λ (x : Point). x.at) a.2 in
      let eb : b.0.at ≡ q.at = ap (λ (x : Point). x.at) b.2 in
      omega (arith, le)

  point_order : IsPointOrder r.registers r.history (map point_of cs)
  point_order = record { selection = serial.selection; legal = serial.legal; called = called; answered = answered; rising = rising }

pub points_order : (r : Run) (ps : List Point) → IsRun r → IsRealTime r → ArePoints r ps
    → IsPointOrder r.registers r.history ps
points_order r ps ok real (cs, kept, same) =
    subst (λ (xs : List Point). IsPointOrder r.registers r.history xs) (sym same) (point_order r ok real cs kept)
