-- The walk along the keys: each operation finds the memory of its place.
use Rattle.std.proofs.Common.{◌≡◌, ℕ, zero, suc, ◌<◌, ◌≤◌, List, [], ◌∷◌, map, length, refl, ap, sym, ◌∙◌, subst, arith}
use Rattle.std.proofs.lemmas.Option.{same_Some}
use Rattle.reg_base.specs.declared.memory.OpId.{OpId}
use Rattle.reg_base.specs.declared.memory.Op.{Op}
use Rattle.reg_base.specs.declared.memory.Answer.{Answer}
use Rattle.reg_checkers.specs.declared.entries.Entry.{Entry}
use Rattle.reg_world.specs.declared.order.First.{First}
use Rattle.reg_base.specs.Memory.{Memory, IsUpdate, answer_of, after}
use Rattle.reg_checkers.specs.History.{IsAt, IsCalled, IsAnswered}
use Rattle.reg_world.specs.Runs.{Run, Cast, IsWaiting, memory_of}
use Rattle.reg_world.specs.Keys.{Key, key, IsBelow, HasKey, Copied, Delivered, Lost, Keyed}
use Rattle.reg_checkers.proofs.Places.{within}
use Rattle.reg_world.proofs.witness.Memories.{unchanged, memory_of_more, gap_to}
use Rattle.reg_world.proofs.witness.Grounds.{IsRun}

-- the ids are legal from this memory on
abbrev pub LegalFrom : List Entry → Memory → List OpId → Type 0
LegalFrom h m [] = Unit {0}
LegalFrom h m (id ∷ ids) = (at : ℕ) × (op : Op) × IsCalled h id at op × ((t : ℕ) (answer : Answer) → IsAnswered h id t answer → answer ≡ answer_of op m) × LegalFrom h (after op m) ids

pub below_place : (a b : Key) → IsBelow a b → a.place ≤ b.place
below_place a b h = grind arith

-- keys that are left, after the first c casts of the order
pub record IsLeft (r : Run) (w : List Keyed) (c : ℕ) : Type 0 where
  pub low : (i : ℕ) (e : Keyed) → IsAt w i e → c ≤ e.key.place
  pub updates : (j : ℕ) (d : First) → c ≤ j → IsAt r.order j d → IsUpdate d.op
      → (i : ℕ) × (e : Keyed) × IsAt w i e × (e.key ≡ key j 1 0 0)

abbrev pub Each : Run → List Keyed → Type 0
Each r w = (i : ℕ) (e : Keyed) → IsAt w i e → HasKey r e.id e.key

abbrev pub Rising : List Keyed → Type 0
Rising w = (i j : ℕ) (a b : Keyed) → IsAt w i a → IsAt w j b → i < j → IsBelow a.key b.key

-- every other key is above that of the head
pub above_head : (e : Keyed) (w : List Keyed) → Rising (e ∷ w) → (i : ℕ) (f : Keyed) → IsAt w i f → IsBelow e.key f.key
above_head e w rising i f at = rising 0 (suc i) e f refl at (omega arith)

-- an update below the head's place would stand before the head
no_update : (r : Run) (e : Keyed) (w : List Keyed) (c : ℕ) → Rising (e ∷ w) → IsLeft r (e ∷ w) c
    → (j : ℕ) (d : First) → c ≤ j → j < e.key.place → IsAt r.order j d → IsUpdate d.op → ⊥
no_update r e w c rising left j d low high at up = go (left.updates j d low at up)
  where
    go : (i : ℕ) × (f : Keyed) × IsAt (e ∷ w) i f × (f.key ≡ key j 1 0 0) → ⊥
    go (zero, f, here, is) =
        let same : e ≡ f = same_Some e f here in
        let place : e.key.place ≡ j = ap (λ (g : Keyed). g.key.place) same ∙ ap (λ (k : Key). k.place) is in
        omega arith
    go (suc i, f, here, is) =
        let le : e.key.place ≤ f.key.place = below_place e.key f.key (above_head e w rising i f here) in
        let place : f.key.place ≡ j = ap (λ (k : Key). k.place) is in
        omega arith

memory_at_head : (r : Run) (e : Keyed) (w : List Keyed) (c : ℕ) → Rising (e ∷ w) → IsLeft r (e ∷ w) c
    → e.key.place ≤ length r.order
    → memory_of r e.key.place ≡ memory_of r c
memory_at_head r e w c rising left fits =
    gap_to r c e.key.place (left.low 0 e refl) fits (no_update r e w c rising left)

-- the updates from a place on are left after the head, if the head is none of them
left_behind : (r : Run) (e : Keyed) (w : List Keyed) (c n : ℕ) → IsLeft r (e ∷ w) c → c ≤ n
    → ((j : ℕ) → n ≤ j → e.key ≡ key j 1 0 0 → ⊥)
    → (j : ℕ) (d : First) → n ≤ j → IsAt r.order j d → IsUpdate d.op → (i : ℕ) × (f : Keyed) × IsAt w i f × (f.key ≡ key j 1 0 0)
left_behind r e w c n left le other j d low at up = go (left.updates j d (omega arith) at up)
  where
    go : (i : ℕ) × (f : Keyed) × IsAt (e ∷ w) i f × (f.key ≡ key j 1 0 0) → (i : ℕ) × (f : Keyed) × IsAt w i f × (f.key ≡ key j 1 0 0)
    go (zero, f, here, is) = absurd (other j low (ap (λ (g : Keyed). g.key) (same_Some e f here) ∙ is))
    go (suc i, f, here, is) = (i, f, here, is)

-- what is known of a finished cast that was delivered nowhere
abbrev pub IsLost : Run → OpId → Type 0
IsLost r id = (d : Cast) × ((k : ℕ) × IsAt r.casts k d) × (d.id ≡ id) × IsWaiting r id

-- such casts are legal on any memory
walk_lost : (r : Run) → IsRun r → (w : List Keyed) (m : Memory) → ((i : ℕ) (e : Keyed) → IsAt w i e → IsLost r e.id)
    → LegalFrom r.history m (map (λ e. e.id) w)
walk_lost r ok [] m each = tt
walk_lost r ok (e ∷ w) m each =
    let lost = each 0 e refl in
    let d = lost.0 in
    let called = ok.called d lost.1 in (
      called.0,
      d.op,
      subst (λ (id : OpId). IsCalled r.history id called.0 d.op) lost.2 called.1,
      λ t answer is. ok.blind d t answer lost.1 (subst (λ (id : OpId). IsWaiting r id) (sym lost.2) lost.3) (subst (λ (id : OpId). IsAnswered r.history id t answer) (sym lost.2) is) m,
      walk_lost r ok w (after d.op m) (λ i f at. each (suc i) f at),
    )

-- what stands above a lost cast's key is lost
lost_above : (r : Run) → IsRun r → (id : OpId) (k : Key) (b : Key) → HasKey r id k → b.place ≡ length r.order
    → b.kind ≡ 2 → IsBelow b k → IsLost r id
lost_above r ok id k b (Copied q in' id_is is) place kind below =
    let fits = (ok.copied q in').within in
    let p : k.place ≡ q.place = ap (λ (k : Key). k.place) is in
    let t : k.kind ≡ 0 = ap (λ (k : Key). k.kind) is in
    absurd (no_read_above b k q.place (length r.order) place kind p t fits below)
  where
    no_read_above : (b k : Key) (p n : ℕ) → b.place ≡ n → b.kind ≡ 2 → k.place ≡ p → k.kind ≡ 0 → p ≤ n → IsBelow b k → ⊥
    no_read_above b k p n e1 e2 e3 e4 le below = grind arith
lost_above r ok id k b (Delivered place' c at id_is kept is) place kind below =
    let fits = within r.order place' c at in
    let p : k.place ≡ place' = ap (λ (k : Key). k.place) is in
    absurd (no_cast_above b k place' (length r.order) place p fits below)
  where
    no_cast_above : (b k : Key) (p n : ℕ) → b.place ≡ n → k.place ≡ p → p < n → IsBelow b k → ⊥
    no_cast_above b k p n e1 e3 lt below = grind arith
lost_above r ok id k b (Lost d in' id_is waits finished is) place kind below = (d, in', id_is, waits)

-- what stands above a delivered cast's key has a later place
place_above : (r : Run) (id : OpId) (k : Key) (n : ℕ) → HasKey r id k → n < length r.order → IsBelow (key n 1 0 0) k
    → suc n ≤ k.place
place_above r id k n (Copied q in' id_is is) lt below =
    let t : k.kind ≡ 0 = ap (λ (k : Key). k.kind) is in go k n t below
  where
    go : (k : Key) (n : ℕ) → k.kind ≡ 0 → IsBelow (key n 1 0 0) k → suc n ≤ k.place
    go k n t below = grind arith
place_above r id k n (Delivered place c at id_is kept is) lt below =
    let t : k.kind ≡ 1 = ap (λ (k : Key). k.kind) is in
    let a : k.major ≡ 0 = ap (λ (k : Key). k.major) is in
    let b : k.minor ≡ 0 = ap (λ (k : Key). k.minor) is in go k n t a b below
  where
    go : (k : Key) (n : ℕ) → k.kind ≡ 1 → k.major ≡ 0 → k.minor ≡ 0 → IsBelow (key n 1 0 0) k → suc n ≤ k.place
    go k n t a b below = grind arith
place_above r id k n (Lost d in' id_is waits finished is) lt below =
    let p : k.place ≡ length r.order = ap (λ (k : Key). k.place) is in omega arith

-- the walk that is left once the head is done, wherever the order then stands
abbrev Rest : Run → List Keyed → Type 0
Rest r w = (c : ℕ) → IsLeft r w c → LegalFrom r.history (memory_of r c) (map (λ e. e.id) w)

-- the head and the rest, where the head's operation is known and the memory is that at its key
step : (r : Run) (e : Keyed) (w : List Keyed) (c n : ℕ) (at : ℕ) (op : Op)
    → memory_of r e.key.place ≡ memory_of r c
    → IsCalled r.history e.id at op
    → ((t : ℕ) (answer : Answer) → IsAnswered r.history e.id t answer → answer ≡ answer_of op (memory_of r e.key.place))
    → memory_of r n ≡ after op (memory_of r e.key.place)
    → LegalFrom r.history (memory_of r n) (map (λ e. e.id) w)
    → LegalFrom r.history (memory_of r c) (map (λ e. e.id) (e ∷ w))
step r e w c n at op same called right next rest = (
  at,
  op,
  called,
  λ t answer is. right t answer is ∙ ap (λ (m : Memory). answer_of op m) same,
  subst (λ (m : Memory). LegalFrom r.history m (map (λ e. e.id) w)) (next ∙ ap (λ (m : Memory). after op m) same) rest,
)

head : (r : Run) → IsRun r → (e : Keyed) (w : List Keyed) (c : ℕ) → Each r (e ∷ w) → Rising (e ∷ w) → IsLeft r (e ∷ w) c
    → HasKey r e.id e.key → Rest r w
    → LegalFrom r.history (memory_of r c) (map (λ e. e.id) (e ∷ w))
head r ok e w c each rising left (Copied q in' id_is is) rest =
    let facts = ok.copied q in' in
    let p : e.key.place ≡ q.place = ap (λ (k : Key). k.place) is in
    let kind : e.key.kind ≡ 0 = ap (λ (k : Key). k.kind) is in
    let fits : e.key.place ≤ length r.order = omega (arith, facts.within) in
    let called : IsCalled r.history e.id facts.called_at facts.op = subst (λ (id : OpId). IsCalled r.history id facts.called_at facts.op) id_is facts.called in
    let low : c ≤ e.key.place = left.low 0 e refl in
    step r e w c e.key.place facts.called_at facts.op (memory_at_head r e w c rising left fits) called
    (λ t answer h. facts.answer t answer (subst (λ (id : OpId). IsAnswered r.history id t answer) (sym id_is) h) ∙ ap (λ (k : ℕ). answer_of facts.op (memory_of r k)) (sym p))
    (sym (unchanged (memory_of r e.key.place) facts.op facts.reads))
    (rest e.key.place (record {
      low = λ i f at. below_place e.key f.key (above_head e w rising i f at);
      updates = left_behind r e w c e.key.place left low (λ j le same. absurd (no_kind kind (ap (λ (k : Key). k.kind) same)));
    }))
  where
    no_kind : {k : ℕ} → k ≡ 0 → k ≡ 1 → ⊥
    no_kind a b = omega arith
head r ok e w c each rising left (Delivered place d at id_is kept is) rest =
    let p : e.key.place ≡ place = ap (λ (k : Key). k.place) is in
    let inside : place < length r.order = within r.order place d at in
    let fits : e.key.place ≤ length r.order = omega arith in
    let low : c ≤ suc place = (let l : c ≤ e.key.place = left.low 0 e refl in omega arith) in
    let made = ok.called (record { stamp = d.stamp; id = d.id; op = d.op }) (ok.delivered place d at) in
    let called : IsCalled r.history e.id made.0 d.op = subst (λ (id : OpId). IsCalled r.history id made.0 d.op) id_is made.1 in
    step r e w c (suc place) made.0 d.op (memory_at_head r e w c rising left fits) called
    (λ t answer h. ok.answer place d t answer at (subst (λ (id : OpId). IsAnswered r.history id t answer) (sym id_is) h) ∙ ap (λ (k : ℕ). answer_of d.op (memory_of r k)) (sym p))
    (memory_of_more r place d at ∙ ap (λ (k : ℕ). after d.op (memory_of r k)) (sym p))
    (rest (suc place) (record {
      low = λ i f here. place_above r f.id f.key place (each (suc i) f here) inside (subst (λ (k : Key). IsBelow k f.key) is (above_head e w rising i f here));
      updates = left_behind r e w c (suc place) left low (λ j le same. above_self le (sym p ∙ ap (λ (k : Key). k.place) same));
    }))
  where
    above_self : {n j : ℕ} → suc n ≤ j → n ≡ j → ⊥
    above_self le e = omega arith
head r ok e w c each rising left (Lost d in' id_is waits finished is) rest =
    walk_lost r ok (e ∷ w) (memory_of r c) all
  where
    all : (i : ℕ) (f : Keyed) → IsAt (e ∷ w) i f → IsLost r f.id
    all zero f at = subst (λ (g : Keyed). IsLost r g.id) (same_Some e f at) (d, in', id_is, waits)
    all (suc i) f at = lost_above r ok f.id f.key e.key (each (suc i) f at) (ap (λ (k : Key). k.place) is) (ap (λ (k : Key). k.kind) is) (above_head e w rising i f at)

pub walk : (r : Run) → IsRun r → (w : List Keyed) (c : ℕ) → Each r w → Rising w → IsLeft r w c
    → LegalFrom r.history (memory_of r c) (map (λ e. e.id) w)
walk r ok [] c each rising left = tt
walk r ok (e ∷ w) c each rising left =
    head r ok e w c each rising left (each 0 e refl) (λ n rest. walk r ok w n (λ i f at. each (suc i) f at) (λ i j a b ha hb lt. rising (suc i) (suc j) a b ha hb (omega arith)) rest)
