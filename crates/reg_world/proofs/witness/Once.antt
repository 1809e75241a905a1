-- Each operation has one key at most, and the keys of one process rise with its numbers.
use Rattle.std.proofs.Common.{◌≡◌, ℕ, ◌<◌, ◌≤◌, ◌⊎◌, inl, inr, length, ap, sym, ◌∙◌, subst, arith}
use Rattle.std.proofs.lemmas.Bool.{cases_order}
use Rattle.reg_base.specs.declared.memory.OpId.{OpId}
use Rattle.reg_base.specs.declared.stamps.Stamp.{Stamp}
use Rattle.reg_world.specs.declared.order.First.{First}
use Rattle.reg_checkers.specs.History.{IsAt}
use Rattle.reg_base.specs.Order.{Below}
use Rattle.reg_world.specs.Runs.{Run, Cast}
use Rattle.reg_world.specs.Keys.{Key, key, IsBelow, HasKey, Copied, Delivered, Lost}
use Rattle.reg_checkers.proofs.Places.{within, same_at}
use Rattle.reg_world.proofs.witness.Grounds.{IsRun}

abbrev pub cast_of : First → Cast
cast_of c = record { stamp = c.stamp; id = c.id; op = c.op }

pub before_not_after : (s t : Stamp) → Below s t → Below t s → ⊥
before_not_after s t h g = grind arith

pub below_not_above : (a b : Key) → IsBelow a b → IsBelow b a → ⊥
below_not_above a b h g = grind arith

before_self : (s : Stamp) → Below s s → ⊥
before_self s h = before_not_after s s h h

-- places in the order go by stamps
place_below : (r : Run) → IsRun r → (i j : ℕ) (a b : First) → IsAt r.order i a → IsAt r.order j b
    → Below a.stamp b.stamp → i < j
place_below r ok i j a b at1 at2 before = go (cases_order i j)
  where
    go : (i ≡ j) ⊎ ((i < j) ⊎ (j < i)) → i < j
    go (inl same) =
        let one : a ≡ b = same_at r.order j a b (subst (λ (k : ℕ). IsAt r.order k a) same at1) at2 in
        absurd (before_self b.stamp (subst (λ (c : First). Below c.stamp b.stamp) one before))
    go (inr (inl lt)) = lt
    go (inr (inr gt)) = absurd (before_not_after a.stamp b.stamp before (ok.rising j i b a at2 at1 gt))

-- an id stands once in the order
pub order_once : (r : Run) → IsRun r → (i j : ℕ) (a b : First) → IsAt r.order i a → IsAt r.order j b → a.id ≡ b.id
    → i ≡ j
order_once r ok i j a b at1 at2 same = go (cases_order i j)
  where
    stamps : a.stamp ≡ b.stamp
    stamps = ap (λ (d : Cast). d.stamp) (ok.one_cast (cast_of a) (cast_of b) (ok.delivered i a at1) (ok.delivered j b at2) same)

    go : (i ≡ j) ⊎ ((i < j) ⊎ (j < i)) → i ≡ j
    go (inl e) = e
    go (inr (inl lt)) = absurd (before_self b.stamp (subst (λ (s : Stamp). Below s b.stamp) stamps (ok.rising i j a b at1 at2 lt)))
    go (inr (inr gt)) = absurd (before_self b.stamp (subst (λ (s : Stamp). Below b.stamp s) stamps (ok.rising j i b a at2 at1 gt)))

-- an id has one key
pub key_once : (r : Run) → IsRun r → (id : OpId) (k l : Key) → HasKey r id k → HasKey r id l → k ≡ l
key_once r ok id k l (Copied q in1 is1 e1) (Copied p in2 is2 e2) =
    let le : q.place ≤ p.place = ok.places q p in1 in2 (ap (λ (x : OpId). x.process) (is1 ∙ sym is2)) (same_le (ap (λ (x : OpId). x.number) (is1 ∙ sym is2))) in
    let ge : p.place ≤ q.place = ok.places p q in2 in1 (ap (λ (x : OpId). x.process) (is2 ∙ sym is1)) (same_le (ap (λ (x : OpId). x.number) (is2 ∙ sym is1))) in
    let same : q.place ≡ p.place = omega arith in
    e1 ∙ (ap (λ (n : ℕ). key n 0 id.process id.number) same ∙ sym e2)
  where
    same_le : {a b : ℕ} → a ≡ b → a ≤ b
    same_le e = omega arith
key_once r ok id k l (Copied q in1 is1 e1) (Delivered n c at2 is2 kept e2) =
    absurd ((ok.copied q in1).no_cast (cast_of c) (ok.delivered n c at2) (is2 ∙ sym is1))
key_once r ok id k l (Copied q in1 is1 e1) (Lost d in2 is2 waits fin e2) =
    absurd ((ok.copied q in1).no_cast d in2 (is2 ∙ sym is1))
key_once r ok id k l (Delivered n c at1 is1 kept e1) (Copied q in2 is2 e2) =
    absurd ((ok.copied q in2).no_cast (cast_of c) (ok.delivered n c at1) (is1 ∙ sym is2))
key_once r ok id k l (Delivered n c at1 is1 kept1 e1) (Delivered m d at2 is2 kept2 e2) =
    e1 ∙ (ap (λ (i : ℕ). key i 1 0 0) (order_once r ok n m c d at1 at2 (is1 ∙ sym is2)) ∙ sym e2)
key_once r ok id k l (Delivered n c at1 is1 kept e1) (Lost d in2 is2 waits fin e2) = absurd (waits n c at1 is1)
key_once r ok id k l (Lost d in1 is1 waits fin e1) (Copied q in2 is2 e2) =
    absurd ((ok.copied q in2).no_cast d in1 (is1 ∙ sym is2))
key_once r ok id k l (Lost d in1 is1 waits fin e1) (Delivered n c at2 is2 kept e2) = absurd (waits n c at2 is2)
key_once r ok id k l (Lost d in1 is1 waits1 fin1 e1) (Lost b in2 is2 waits2 fin2 e2) =
    e1 ∙ (ap (λ (c : Cast). key (length r.order) 2 c.stamp.time c.stamp.process) (ok.one_cast d b in1 in2 (is1 ∙ sym is2)) ∙ sym e2)

numbers : {x y u v : OpId} → x ≡ u → y ≡ v → u.number < v.number → x.number < y.number
numbers e1 e2 lt = grind arith

weaker : {m n : ℕ} → m < n → m ≤ n
weaker lt = omega arith

below_at : (k l x y : Key) → k ≡ x → l ≡ y → IsBelow x y → IsBelow k l
below_at k l x y e1 e2 h = subst (λ (z : Key). IsBelow z l) (sym e1) (subst (λ (z : Key). IsBelow x z) (sym e2) h)

-- the keys of one process rise with its numbers
pub own_below : (r : Run) → IsRun r → (a b : OpId) (k l : Key) → HasKey r a k → HasKey r b l → a.process ≡ b.process
    → a.number < b.number → IsBelow k l
own_below r ok a b k l (Copied q in1 is1 e1) (Copied p in2 is2 e2) same lt =
    let pq : q.id.process ≡ p.id.process = cc in
    let le : q.place ≤ p.place = ok.places q p in1 in2 pq (weaker (numbers is1 is2 lt)) in
    below_at k l _ _ e1 e2 (reads q.place p.place a.process b.process a.number b.number le same lt)
  where
    reads : (m n s t i j : ℕ) → m ≤ n → s ≡ t → i < j → IsBelow (key m 0 s i) (key n 0 t j)
    reads m n s t i j le same lt = grind arith
own_below r ok a b k l (Copied q in1 is1 e1) (Delivered n c at2 is2 kept e2) same lt =
    let cq : c.id.process ≡ q.id.process = cc in
    let le : q.place ≤ n = (ok.copied q in1).later n c at2 cq (numbers is1 is2 lt) in
    below_at k l _ _ e1 e2 (read_cast q.place n a.process a.number le)
  where
    read_cast : (m n s i : ℕ) → m ≤ n → IsBelow (key m 0 s i) (key n 1 0 0)
    read_cast m n s i le = grind arith
own_below r ok a b k l (Copied q in1 is1 e1) (Lost d in2 is2 waits fin e2) same lt =
    below_at k l _ _ e1 e2 (read_lost q.place (length r.order) a.process a.number d.stamp.time d.stamp.process (ok.copied q in1).within)
  where
    read_lost : (m n s i t j : ℕ) → m ≤ n → IsBelow (key m 0 s i) (key n 2 t j)
    read_lost m n s i t j le = grind arith
own_below r ok a b k l (Delivered n c at1 is1 kept e1) (Copied q in2 is2 e2) same lt =
    let cq : c.id.process ≡ q.id.process = cc in
    let found = (ok.copied q in2).earlier (cast_of c) (ok.delivered n c at1) cq (numbers is1 is2 lt) in
    let here : n ≡ found.0 = order_once r ok n found.0 c found.1 at1 found.2 (sym found.3) in
    let less : n < q.place = omega (arith, found.4) in
    below_at k l _ _ e1 e2 (inl less)
own_below r ok a b k l (Delivered n c at1 is1 kept1 e1) (Delivered m d at2 is2 kept2 e2) same lt =
    let cd : c.id.process ≡ d.id.process = cc in
    let before = ok.own_casts (cast_of c) (cast_of d) (ok.delivered n c at1) (ok.delivered m d at2) cd (numbers is1 is2 lt) in
    below_at k l _ _ e1 e2 (inl (place_below r ok n m c d at1 at2 before))
own_below r ok a b k l (Delivered n c at1 is1 kept e1) (Lost d in2 is2 waits fin e2) same lt =
    below_at k l _ _ e1 e2 (inl (within r.order n c at1))
own_below r ok a b k l (Lost d in1 is1 waits fin e1) (Copied q in2 is2 e2) same lt =
    let dq : d.id.process ≡ q.id.process = cc in
    let found = (ok.copied q in2).earlier d in1 dq (numbers is1 is2 lt) in
    absurd (waits found.0 found.1 found.2 (found.3 ∙ is1))
own_below r ok a b k l (Lost d in1 is1 waits fin e1) (Delivered n c at2 is2 kept e2) same lt =
    let dc : d.id.process ≡ c.id.process = cc in
    let before = ok.own_casts d (cast_of c) in1 (ok.delivered n c at2) dc (numbers is1 is2 lt) in
    absurd (before_not_after d.stamp c.stamp before (ok.waiting d in1 (λ i f at same'. waits i f at (same' ∙ is1)) n c at2))
own_below r ok a b k l (Lost d in1 is1 waits1 fin1 e1) (Lost c in2 is2 waits2 fin2 e2) same lt =
    let dc : d.id.process ≡ c.id.process = cc in
    let before = ok.own_casts d c in1 in2 dc (numbers is1 is2 lt) in
    below_at k l _ _ e1 e2 (lost (length r.order) d.stamp c.stamp before)
  where
    lost : (n : ℕ) (s t : Stamp) → Below s t → IsBelow (key n 2 s.time s.process) (key n 2 t.time t.process)
    lost n s t h = grind arith
