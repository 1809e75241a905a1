-- The merged list is that of the keys.
use Rattle.std.proofs.Common.{◌≡◌, ℕ, zero, suc, ◌+◌, ◌<◌, ◌≤◌, ◌⊎◌, ◌↔◌, Bool, true, cond, List, [], ◌∷◌, ◌++◌, map}
use Rattle.std.proofs.Common.{length, refl, sym, ap, ◌∙◌, subst, inl, inr, arith}
use Rattle.std.specs.Prelude.{nat_le}
use Rattle.std.proofs.lemmas.Bool.{cond_both, leb-true, leb-false}
use Rattle.std.proofs.lemmas.Option.{same_Some}
use Rattle.reg_base.specs.declared.memory.OpId.{OpId}
use Rattle.reg_base.specs.Order.{In}
use Rattle.reg_checkers.specs.History.{IsAt, IsFinished}
use Rattle.reg_world.specs.declared.order.First.{First}
use Rattle.reg_world.specs.declared.order.CopyRead.{CopyRead}
use Rattle.reg_world.specs.declared.witnesses.Ranked.{Ranked}
use Rattle.reg_world.specs.Runs.{Run, Cast, IsWaiting}
use Rattle.reg_world.specs.Keys.{key, IsBelow, IsKept, HasKey, Copied, Delivered, Lost, Keyed, IsByKeys}
use Rattle.reg_world.specs.Witnesses.{upto, later, keyed_read, keyed_cast, keyed_lost, kept_one, merge, all_keyed}
use Rattle.reg_world.proofs.lists.Rises.{RisesBy, rises_at, rises_append, rises_map}
use Rattle.reg_world.proofs.witness.Ranking.{Lower}
use Rattle.reg_base.proofs.Lists.{in_left, in_right, in_cases}
use Rattle.reg_world.proofs.lists.Members.{in_at, in_map, map_in}
use Rattle.reg_world.proofs.lists.Bodies.{place_in, place_within}

abbrev pub Under : Keyed → Keyed → Type 0
Under a b = IsBelow a.key b.key

-- the cast at a place from k on is kept, and this is its key
abbrev pub IsCastOf : (First → Bool) → List First → ℕ → Keyed → Type 0
IsCastOf kept order k e = (j : ℕ) × (c : First) × IsAt order j c × (kept c ≡ true) × (e ≡ keyed_cast (k + j) c)

abbrev pub IsReadOf : List Ranked → Keyed → Type 0
IsReadOf reads e = (q : Ranked) × In q reads × (e ≡ keyed_read q)

in_upto : (k : ℕ) (qs : List Ranked) (q : Ranked) → In q (upto k qs) → In q qs × (q.rank ≤ k)
in_upto k [] q h = absurd h
in_upto k (x ∷ xs) q h =
    cond_both (nat_le x.rank k) (x ∷ upto k xs) [] (λ l. In q l → In q (x ∷ xs) × (q.rank ≤ k))
    (λ e i. elim i [ inl s ↦ (inl s, let l = leb-true x.rank k e in let z = ap (λ (y : Ranked). y.rank) s in omega (arith, l, z)) | inr j ↦ let r = in_upto k xs q j in (inr r.0, r.1) ])
    (λ e i. absurd i)
    h

in_later : (k : ℕ) (qs : List Ranked) (q : Ranked) → In q (later k qs) → In q qs
in_later k [] q h = absurd h
in_later k (x ∷ xs) q h = cond_both (nat_le x.rank k) (later k xs) (x ∷ xs) (λ l. In q l → In q (x ∷ xs)) (λ e i. inr (in_later k xs q i)) (λ e i. i) h

above_later : (k : ℕ) (qs : List Ranked) (q : Ranked) → RisesBy Lower qs → In q (later k qs) → k < q.rank
above_later k [] q r h = absurd h
above_later k (x ∷ xs) q r h =
    cond_both (nat_le x.rank k) (later k xs) (x ∷ xs) (λ l. In q l → k < q.rank)
    (λ e i. above_later k xs q r.1 i)
    (λ e i. let l = leb-false x.rank k e in elim i [ inl s ↦ (let z = ap (λ (y : Ranked). y.rank) s in omega (arith, l, z)) | inr j ↦ over x q l (r.0 q j) ])
    h
  where
    over : (x q : Ranked) → k < x.rank → Lower x q → k < q.rank
    over x q l h = grind arith

in_parts : (k : ℕ) (qs : List Ranked) (q : Ranked) → In q qs → In q (upto k qs) ⊎ In q (later k qs)
in_parts k [] q h = absurd h
in_parts k (x ∷ xs) q h =
    cond_both (nat_le x.rank k) (x ∷ upto k xs) [] (λ u. In q u ⊎ In q (cond (nat_le x.rank k) (later k xs) (x ∷ xs)))
    (λ e. elim h [
      | inl s ↦ inl (inl s)
      | inr i ↦ elim (in_parts k xs q i) [ inl j ↦ inl (inr j) | inr j ↦ inr (subst (λ b. In q (cond b (later k xs) (x ∷ xs))) (sym e) j) ]
    ])
    (λ e. inr (subst (λ b. In q (cond b (later k xs) (x ∷ xs))) (sym e) h))

upto_rises : (k : ℕ) (qs : List Ranked) → RisesBy Lower qs → RisesBy Lower (upto k qs)
upto_rises k [] r = tt
upto_rises k (x ∷ xs) r =
    cond_both (nat_le x.rank k) (x ∷ upto k xs) [] (RisesBy Lower) (λ e. (λ y i. r.0 y (in_upto k xs y i).0, upto_rises k xs r.1)) (λ e. tt)

later_rises : (k : ℕ) (qs : List Ranked) → RisesBy Lower qs → RisesBy Lower (later k qs)
later_rises k [] r = tt
later_rises k (x ∷ xs) r =
    cond_both (nat_le x.rank k) (later k xs) (x ∷ xs) (RisesBy Lower) (λ e. later_rises k xs r.1) (λ e. r)

in_one : (kept : First → Bool) (k : ℕ) (c : First) (e : Keyed) → In e (kept_one kept k c)
    → (kept c ≡ true) × (e ≡ keyed_cast k c)
in_one kept k c e h =
    cond_both (kept c) (keyed_cast k c ∷ []) [] (λ l. In e l → (kept c ≡ true) × (e ≡ keyed_cast k c))
    (λ t i. elim i [ inl s ↦ (t, s) | inr f ↦ absurd f ]) (λ t i. absurd i) h

one_in : (kept : First → Bool) (k : ℕ) (c : First) → kept c ≡ true → In (keyed_cast k c) (kept_one kept k c)
one_in kept k c e = subst (λ b. In (keyed_cast k c) (cond b (keyed_cast k c ∷ []) [])) (sym e) (inl refl)

next_cast : (k j : ℕ) (c : First) → keyed_cast ((k + 1) + j) c ≡ keyed_cast (k + suc j) c
next_cast k j c = let e : (k + 1) + j ≡ k + suc j = omega arith in ap (λ z. keyed_cast z c) e

first_cast : (k : ℕ) (c : First) → keyed_cast (k + 0) c ≡ keyed_cast k c
first_cast k c = let e : k + 0 ≡ k = omega arith in ap (λ z. keyed_cast z c) e

pub in_merge : (kept : First → Bool) (k : ℕ) (reads : List Ranked) (order : List First) (e : Keyed)
    → In e (merge kept k reads order) → IsReadOf reads e ⊎ IsCastOf kept order k e
in_merge kept k reads [] e h = inl (map_in keyed_read e reads h)
in_merge kept k reads (c ∷ cs) e h =
    elim (in_cases e (map keyed_read (upto k reads)) (kept_one kept k c ++ merge kept (k + 1) (later k reads) cs) h) [
      | inl i ↦ let r = map_in keyed_read e (upto k reads) i in inl (r.0, (in_upto k reads r.0 r.1).0, r.2)
      | inr i ↦ elim (in_cases e (kept_one kept k c) (merge kept (k + 1) (later k reads) cs) i) [
        | inl j ↦ let r = in_one kept k c e j in inr (0, c, refl, r.0, r.1 ∙ sym (first_cast k c))
        | inr j ↦ elim (in_merge kept (k + 1) (later k reads) cs e j) [
          | inl r ↦ inl (r.0, in_later k reads r.0 r.1, r.2)
          | inr r ↦ inr (suc r.0, r.1, r.2, r.3, r.4 ∙ next_cast k r.0 r.1)
        ]
      ]
    ]

pub read_in_merge : (kept : First → Bool) (k : ℕ) (reads : List Ranked) (order : List First) (q : Ranked) → In q reads
    → In (keyed_read q) (merge kept k reads order)
read_in_merge kept k reads [] q h = in_map keyed_read q reads h
read_in_merge kept k reads (c ∷ cs) q h =
    elim (in_parts k reads q h) [
      | inl i ↦ in_left (keyed_read q) (map keyed_read (upto k reads)) (kept_one kept k c ++ merge kept (k + 1) (later k reads) cs) (in_map keyed_read q (upto k reads) i)
      | inr i ↦ in_right (keyed_read q) (map keyed_read (upto k reads)) (kept_one kept k c ++ merge kept (k + 1) (later k reads) cs)
          (in_right (keyed_read q) (kept_one kept k c) (merge kept (k + 1) (later k reads) cs) (read_in_merge kept (k + 1) (later k reads) cs q i))
    ]

pub cast_in_merge : (kept : First → Bool) (k : ℕ) (reads : List Ranked) (order : List First) (j : ℕ) (c : First)
    → IsAt order j c → kept c ≡ true → In (keyed_cast (k + j) c) (merge kept k reads order)
cast_in_merge kept k reads [] j c at e = absurd cc
cast_in_merge kept k reads (x ∷ cs) zero c at e =
    let same : x ≡ c = same_Some x c at in
    let here : In (keyed_cast k c) (kept_one kept k x) = subst (λ z. In (keyed_cast k z) (kept_one kept k x)) same (one_in kept k x (ap kept same ∙ e)) in
    subst (λ z. In z (merge kept k reads (x ∷ cs))) (sym (first_cast k c))
    (in_right (keyed_cast k c) (map keyed_read (upto k reads)) (kept_one kept k x ++ merge kept (k + 1) (later k reads) cs) (in_left (keyed_cast k c) (kept_one kept k x) (merge kept (k + 1) (later k reads) cs) here))
cast_in_merge kept k reads (x ∷ cs) (suc j) c at e =
    let there = subst (λ z. In z (merge kept (k + 1) (later k reads) cs)) (next_cast k j c) (cast_in_merge kept (k + 1) (later k reads) cs j c at e) in
    in_right (keyed_cast (k + suc j) c) (map keyed_read (upto k reads)) (kept_one kept k x ++ merge kept (k + 1) (later k reads) cs) (in_right (keyed_cast (k + suc j) c) (kept_one kept k x) (merge kept (k + 1) (later k reads) cs) there)

reads_under : (a b : Ranked) → Lower a b → Under (keyed_read a) (keyed_read b)
reads_under a b h = grind arith

read_under_cast : (a : Ranked) (k : ℕ) (c : First) → a.rank ≤ k → Under (keyed_read a) (keyed_cast k c)
read_under_cast a k c h = grind arith

-- what is under every key from the place k on
under_rest : (kept : First → Bool) (k : ℕ) (reads : List Ranked) (cs : List First) (x y : Keyed)
    → ((e : Keyed) → k < e.key.place → Under x e) → RisesBy Lower reads → In y (merge kept (k + 1) (later k reads) cs)
    → Under x y
under_rest kept k reads cs x y under r h = elim (in_merge kept (k + 1) (later k reads) cs y h) [
  | inl q ↦ under y (let l = above_later k reads q.0 r q.1 in let z = ap (λ (e : Keyed). e.key.place) q.2 in omega (arith, l, z))
  | inr q ↦ under y (let z = ap (λ (e : Keyed). e.key.place) q.4 in omega (arith, z))
]

one_rises : (kept : First → Bool) (k : ℕ) (c : First) → RisesBy Under (kept_one kept k c)
one_rises kept k c = cond_both (kept c) (keyed_cast k c ∷ []) [] (RisesBy Under) (λ e. (λ y i. absurd i, tt)) (λ e. tt)

pub merge_rises : (kept : First → Bool) (k : ℕ) (reads : List Ranked) (order : List First) → RisesBy Lower reads
    → RisesBy Under (merge kept k reads order)
merge_rises kept k reads [] r = rises_map Lower Under keyed_read reads r (λ a b i j h. reads_under a b h)
merge_rises kept k reads (c ∷ cs) r =
    let rest = merge kept (k + 1) (later k reads) cs in
    rises_append Under (map keyed_read (upto k reads)) (kept_one kept k c ++ rest)
    (rises_map Lower Under keyed_read (upto k reads) (upto_rises k reads r) (λ a b i j h. reads_under a b h))
    (rises_append Under (kept_one kept k c) rest (one_rises kept k c) (merge_rises kept (k + 1) (later k reads) cs (later_rises k reads r))
    (λ x y i j. let s = in_one kept k c x i in under_rest kept k reads cs x y (λ e l. inl (let z = ap (λ (u : Keyed). u.key.place) s.1 in omega (arith, l, z))) r j))
    (λ x y i j.
    let s = map_in keyed_read x (upto k reads) i in
    let low = (in_upto k reads s.0 s.1).1 in
    elim (in_cases y (kept_one kept k c) rest j) [
      | inl u ↦ let t = in_one kept k c y u in subst (λ z. Under x z) (sym t.1) (subst (λ z. Under z (keyed_cast k c)) (sym s.2) (read_under_cast s.0 k c low))
      | inr u ↦ under_rest kept k reads cs x y (λ e l. inl (let z = ap (λ (w : Keyed). w.key.place) s.2 in omega (arith, l, low, z))) r u
    ])

module _ (r : Run) (kept : First → Bool) (reads lost : List Ranked)
    (keeps : (c : First) → IsKept r c ↔ (kept c ≡ true))
    (reads_some : (q : Ranked) → In q reads → (x : CopyRead) × ((k : ℕ) × IsAt r.reads k x) × (x.id ≡ q.id) × (x.place ≡ q.rank))
    (reads_all : (x : CopyRead) → ((k : ℕ) × IsAt r.reads k x) → In (record { rank = x.place; id = x.id }) reads)
    (reads_rise : RisesBy Lower reads)
    (within : (x : CopyRead) → ((k : ℕ) × IsAt r.reads k x) → x.place ≤ length r.order)
    (lost_some : (q : Ranked) → In q lost → (d : Cast) × ((k : ℕ) × IsAt r.casts k d) × (d.id ≡ q.id) × (d.stamp.time ≡ q.rank) × (d.stamp.process ≡ q.id.process) × IsWaiting r d.id × IsFinished r.history d.id)
    (lost_all : (d : Cast) → ((k : ℕ) × IsAt r.casts k d) → IsWaiting r d.id → IsFinished r.history d.id → In (record { rank = d.stamp.time; id = d.id }) lost × (d.stamp.process ≡ d.id.process))
    (lost_rise : RisesBy (λ (a b : Ranked). (a.rank < b.rank) ⊎ ((a.rank ≡ b.rank) × (a.id.process < b.id.process))) lost) where
  abbrev all : List Keyed
  all = all_keyed kept reads r.order lost

  abbrev tail_of : List Keyed
  tail_of = map (keyed_lost (length r.order)) lost

  rising : RisesBy Under all
  rising =
      rises_append Under (merge kept 0 reads r.order) tail_of (merge_rises kept 0 reads r.order reads_rise)
      (rises_map (λ (a b : Ranked). (a.rank < b.rank) ⊎ ((a.rank ≡ b.rank) × (a.id.process < b.id.process))) Under (keyed_lost (length r.order)) lost lost_rise (λ a b i j h. under a b h))
      (λ x y i j.
      let s = map_in (keyed_lost (length r.order)) y lost j in
      subst (λ z. Under x z) (sym s.2) (elim (in_merge kept 0 reads r.order x i) [
        | inl q ↦ let from = reads_some q.0 q.1 in subst (λ z. Under z (keyed_lost (length r.order) s.0)) (sym q.2) (read_low q.0 s.0 (let w = within from.0 from.1 in let e = from.3 in omega (arith, w, e)))
        | inr q ↦ inl (let l = place_within r.order q.0 q.1 q.2 in let z = ap (λ (w : Keyed). w.key.place) q.4 in omega (arith, l, z))
      ]))
    where
      under : (a b : Ranked) → (a.rank < b.rank) ⊎ ((a.rank ≡ b.rank) × (a.id.process < b.id.process)) → Under (keyed_lost (length r.order) a) (keyed_lost (length r.order) b)
      under a b h = grind arith

      read_low : (a b : Ranked) → a.rank ≤ length r.order → Under (keyed_read a) (keyed_lost (length r.order) b)
      read_low a b h = grind arith

  from_read : (e : Keyed) → IsReadOf reads e → HasKey r e.id e.key
  from_read e q =
      let x = reads_some q.0 q.1 in
      let same = sym (ap (λ (w : Keyed). w.id) q.2) in
      Copied x.0 x.1 (x.2 ∙ same) (ap (λ (w : Keyed). w.key) q.2 ∙ (ap (λ z. key z 0 q.0.id.process q.0.id.number) (sym x.3) ∙ ap (λ (z : OpId). key x.0.place 0 z.process z.number) same))

  from_cast : (e : Keyed) → IsCastOf kept r.order 0 e → HasKey r e.id e.key
  from_cast e (j, c, at, up, is) =
      let sum : 0 + j ≡ j = omega arith in
      Delivered j c at (sym (ap (λ (w : Keyed). w.id) is)) ((keeps c).1 up) (ap (λ (w : Keyed). w.key) is ∙ ap (λ z. key z 1 0 0) sum)

  from_lost : (e : Keyed) (q : Ranked) → In q lost → e ≡ keyed_lost (length r.order) q → HasKey r e.id e.key
  from_lost e q i is =
      let d = lost_some q i in
      let same : d.0.id ≡ e.id = d.2 ∙ sym (ap (λ (w : Keyed). w.id) is) in
      Lost d.0 d.1 same (subst (IsWaiting r) same d.5) (subst (IsFinished r.history) same d.6)
      (ap (λ (w : Keyed). w.key) is ∙ (ap (λ z. key (length r.order) 2 z q.id.process) (sym d.3) ∙ ap (λ z. key (length r.order) 2 d.0.stamp.time z) (sym d.4)))

  each : (e : Keyed) → In e all → HasKey r e.id e.key
  each e h = elim (in_cases e (merge kept 0 reads r.order) tail_of h) [
    | inl i ↦ elim (in_merge kept 0 reads r.order e i) [ inl q ↦ from_read e q | inr q ↦ from_cast e q ]
    | inr i ↦ let q = map_in (keyed_lost (length r.order)) e lost i in from_lost e q.0 q.1 q.2
  ]

  same_keyed : (a b : Keyed) → a.id ≡ b.id → a.key ≡ b.key → a ≡ b
  same_keyed a b i k = λ t. record { id = i t; key = k t }

  has : (e : Keyed) → HasKey r e.id e.key → In e all
  has e (Copied q i is k) =
      let x : Ranked = record { rank = q.place; id = q.id } in
      let same : keyed_read x ≡ e = same_keyed (keyed_read x) e is (ap (λ (z : OpId). key q.place 0 z.process z.number) is ∙ sym k) in
      in_left e (merge kept 0 reads r.order) tail_of (subst (λ z. In z (merge kept 0 reads r.order)) same (read_in_merge kept 0 reads r.order x (reads_all q i)))
  has e (Delivered j c at is up k) =
      let sum : 0 + j ≡ j = omega arith in
      let same : keyed_cast (0 + j) c ≡ e = same_keyed (keyed_cast (0 + j) c) e is (ap (λ z. key z 1 0 0) sum ∙ sym k) in
      in_left e (merge kept 0 reads r.order) tail_of (subst (λ z. In z (merge kept 0 reads r.order)) same (cast_in_merge kept 0 reads r.order j c at ((keeps c).0 up)))
  has e (Lost d i is waits fin k) =
      let there = lost_all d i (subst (IsWaiting r) (sym is) waits) (subst (IsFinished r.history) (sym is) fin) in
      let x : Ranked = record { rank = d.stamp.time; id = d.id } in
      let same : keyed_lost (length r.order) x ≡ e = same_keyed (keyed_lost (length r.order) x) e is (ap (λ z. key (length r.order) 2 d.stamp.time z) (sym there.1) ∙ sym k) in
      in_right e (merge kept 0 reads r.order) tail_of (subst (λ z. In z tail_of) same (in_map (keyed_lost (length r.order)) x lost there.0))

  pub by_keys : IsByKeys r all
  by_keys = record {
    each = λ i e at. each e (place_in all i e at);
    all = λ e h. in_at e all (has e h);
    rising = λ i j a b at1 at2 lt. rises_at Under all i j a b rising at1 at2 lt;
  }
