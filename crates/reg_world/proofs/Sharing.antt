-- Items that stand on several wires at the same place are kept once.
use Rattle.std.proofs.Common.{◌≡◌, ℕ, zero, suc, ◌+◌, ◌-◌, min, ◌<◌, ◌≤◌, List, [], ◌∷◌, ◌++◌, map, length, take, drop}
use Rattle.std.proofs.Common.{get_or, set, replicate, refl, sym, ap, ◌∙◌, inl, inr, arith}
use Rattle.std.proofs.lemmas.Bool.{cases_eq}
use Rattle.std.proofs.lemmas.List.{take-take, take_all, take_at, take_more, get_or_default, length-take, map-set}
use Rattle.std.proofs.lemmas.List.{get_or-map, get_or-set_same, get_or-set_other, set-get_or}
use Rattle.reg_world.specs.Sharing.{Strip, no_items, own_or_shared, items_in, AreInCommon, IsLonger}

-- what is there still comes first
pub longer_length : {X : Type 0} (old new : List X) → IsLonger old new → length old ≤ length new
longer_length old new longer = let a = length-take (length old) new in let b = ap length longer in omega (arith, a, b)

pub longer_more : {X : Type 0} (old new more : List X) → new ≡ old ++ more → IsLonger old new
longer_more old new more grown = ap (take (length old)) grown ∙ take_at old more (length old) refl

pub longer_same : {X : Type 0} (old new : List X) → new ≡ old → IsLonger old new
longer_same old new same = ap (take (length old)) same ∙ take_all (length old) old (omega arith)

-- the items of a wire stay where the common items grow
items_longer : {X : Type 0} (old new : List X) (s : Strip X) → IsLonger old new → s.shared ≤ length old
    → items_in new s ≡ items_in old s
items_longer old new s longer l =
    ap (own_or_shared s.own) (sym (take-take s.shared (length old) new l) ∙ ap (take s.shared) longer)

all_longer : {X : Type 0} (old new : List X) (strips : List (Strip X)) → IsLonger old new → AreInCommon old strips
    → map (items_in new) strips ≡ map (items_in old) strips
all_longer old new [] longer shared = refl
all_longer old new (s ∷ ss) longer shared =
    ap (λ f. f ∷ map (items_in new) ss) (items_longer old new s longer (shared 0))
    ∙ ap (λ fs. items_in old s ∷ fs) (all_longer old new ss longer (λ r. shared (suc r)))

pub none_own : {X : Type 0} (own : List X) → length own ≡ 0 → own ≡ []
none_own [] none = refl
none_own (g ∷ gs) none = absurd (omega arith)

-- items go to the end of a wire's own
pub put_own : {X : Type 0} (shared own own1 fs : List X) → 0 < length own → own1 ≡ own ++ fs
    → own_or_shared own1 shared ≡ own_or_shared own shared ++ fs
put_own shared [] own1 fs some grown = absurd (omega arith)
put_own shared (g ∷ gs) own1 fs some grown = ap (λ l. own_or_shared l shared) grown

-- to the end of the common items
pub put_next : {X : Type 0} (old new own : List X) (m n : ℕ) (f : X) → length own ≡ 0 → m ≡ length old → n ≡ length new
    → new ≡ old ++ f ∷ [] → own_or_shared own (take n new) ≡ own_or_shared own (take m old) ++ f ∷ []
put_next old new [] m n f none all whole grown =
    take_all n new (omega (arith, whole)) ∙ (grown ∙ ap (λ l. l ++ f ∷ []) (sym (take_all m old (omega (arith, all)))))
put_next old new (g ∷ gs) m n f none all whole grown = absurd (omega arith)

-- and where it is the next of them
pub put_same : {X : Type 0} (common own : List X) (n : ℕ) (d f : X) → length own ≡ 0 → n < length common
    → get_or common n d ≡ f → own_or_shared own (take (n + 1) common) ≡ own_or_shared own (take n common) ++ f ∷ []
put_same common [] n d f none l same = take_more common n d l ∙ ap (λ z. take n common ++ z ∷ []) same
put_same common (g ∷ gs) n d f none l same = absurd (omega arith)

-- and where some of them are the next ones, and the others follow
along : {X : Type 0} (old items : List X) (count : ℕ) → count ≡ min (length old) (length items)
    → take count old ≡ take count items → take (length items) (old ++ drop count items) ≡ items
along [] items count c same =
    let none : count ≡ 0 = omega (arith, c) in
    ap (λ k. take (length items) (drop k items)) none ∙ take_all (length items) items (omega arith)
along (x ∷ xs) [] count c same = refl
along (x ∷ xs) (y ∷ ys) zero c same = absurd (omega (arith, c))
along (x ∷ xs) (y ∷ ys) (suc k) c same =
    let first : x ≡ y = cc in
    let rest : take k xs ≡ take k ys = cc in
    ap (λ z. z ∷ take (length ys) (xs ++ drop k ys)) first ∙ ap (λ l. y ∷ l) (along xs ys k (omega (arith, c)) rest)

along_from : {X : Type 0} (old items : List X) (m n count : ℕ) → m ≤ length old → n ≡ m + length items
    → count ≡ min (length old - m) (length items) → take count (drop m old) ≡ take count items
    → take n (old ++ drop count items) ≡ take m old ++ items
along_from old items zero n count l e c same =
    let all : n ≡ length items = omega (arith, e) in
    ap (λ k. take k (old ++ drop count items)) all ∙ along old items count (omega (arith, c)) same
along_from [] items (suc m) n count l e c same = absurd (omega (arith, l))
along_from (x ∷ xs) items (suc m) zero count l e c same = absurd (omega (arith, e))
along_from (x ∷ xs) items (suc m) (suc n) count l e c same =
    ap (λ z. x ∷ z) (along_from xs items m n count (omega (arith, l)) (omega (arith, e)) (omega (arith, c)) same)

pub put_along : {X : Type 0} (old new own items : List X) (m n count : ℕ) → length own ≡ 0 → m ≤ length old
    → n ≡ m + length items → count ≡ min (length old - m) (length items) → take count (drop m old) ≡ take count items
    → new ≡ old ++ drop count items
    → own_or_shared own (take n new) ≡ own_or_shared own (take m old) ++ items
put_along old new [] items m n count none l e c same grown =
    ap (take n) grown ∙ along_from old items m n count l e c same
put_along old new (g ∷ gs) items m n count none l e c same grown = absurd (omega (arith, none))

pub shared_at : {X : Type 0} (common : List X) (strips : List (Strip X)) (r : ℕ) (s : Strip X) → r < length strips
    → s ≡ get_or strips r s → AreInCommon common strips → s.shared ≤ length common
shared_at {X} common strips r s l at shared = let is = ap (λ (z : Strip X). z.shared) (at ∙ get_or_default strips r s no_items l) in let few = shared r in omega (arith, is, few)

items_at : {X : Type 0} (common : List X) (strips : List (Strip X)) (r : ℕ) (s : Strip X) → r < length strips
    → s ≡ get_or strips r s → items_in common s ≡ get_or (map (items_in common) strips) r []
items_at common strips r s l at = ap (items_in common) at ∙ sym (get_or-map (items_in common) strips r s [] l)

-- the items of the line that is found are those of the wire
pub items_found : {X : Type 0} (common shown : List X) (strips seen : List (Strip X)) (wires : List (List X)) (r : ℕ)
    (s : Strip X) (items : List X)
    → map (items_in common) strips ≡ wires → shown ≡ common → seen ≡ strips
    → r < length seen → s ≡ get_or seen r s → items ≡ items_in shown s → items ≡ get_or wires r []
items_found common shown strips seen wires r s items view same all l at is =
    is
    ∙ (ap (λ z. items_in z s) same
    ∙ (items_at common seen r s l at
    ∙ (ap (λ z. get_or (map (items_in common) z) r []) all ∙ ap (λ z. get_or z r []) view)))

-- items are put on one wire
pub put_on_one : {X : Type 0} (old new : List X) (strips : List (Strip X)) (r : ℕ) (s d : Strip X) (fs : List X)
    → IsLonger old new → AreInCommon old strips → r < length strips
    → items_in new s ≡ items_in old (get_or strips r d) ++ fs
    → map (items_in new) (set strips r s) ≡ set (map (items_in old) strips) r (get_or (map (items_in old) strips) r [] ++ fs)
put_on_one old new strips r s d fs longer shared l now =
    map-set (items_in new) strips r s
    ∙ (ap (λ z. set z r (items_in new s)) (all_longer old new strips longer shared)
    ∙ ap (set (map (items_in old) strips) r) (now ∙ ap (λ z. z ++ fs) (sym (get_or-map (items_in old) strips r d [] l))))

pub still_shared : {X : Type 0} (old new : List X) (strips : List (Strip X)) (r : ℕ) (s : Strip X) → IsLonger old new
    → AreInCommon old strips → r < length strips → s.shared ≤ length new → AreInCommon new (set strips r s)
still_shared {X} old new strips r s longer shared l now q = elim (cases_eq q r) [
  | inl e ↦ let is : get_or (set strips r s) q no_items ≡ s = ap (λ k. get_or (set strips r s) k no_items) e ∙ get_or-set_same strips r s no_items l in
      let same = ap (λ (z : Strip X). z.shared) is in omega (arith, same, now)
  | inr ne ↦ let is = get_or-set_other strips r q s no_items ne in
      let same = ap (λ (z : Strip X). z.shared) is in let before = shared q in let more = longer_length old new longer in omega (arith, same, before, more)
]

pub none_shared : (X : Type 0) (n : ℕ) → AreInCommon {X = X} [] (replicate n no_items)
none_shared X zero r = omega arith
none_shared X (suc n) zero = omega arith
none_shared X (suc n) (suc r) = none_shared X n r

pub no_wires : {X : Type 0} (n : ℕ) → map (items_in {X = X} []) (replicate n no_items) ≡ replicate n []
no_wires zero = refl
no_wires (suc n) = ap (λ l. [] ∷ l) (no_wires n)

-- nothing is put on one wire
pub keep_on_one : {X : Type 0} (old new : List X) (strips : List (Strip X)) (r : ℕ) (s d : Strip X) → IsLonger old new
    → AreInCommon old strips → r < length strips
    → items_in new s ≡ items_in old (get_or strips r d)
    → map (items_in new) (set strips r s) ≡ map (items_in old) strips
keep_on_one old new strips r s d longer shared l now =
    map-set (items_in new) strips r s
    ∙ (ap (λ z. set z r (items_in new s)) (all_longer old new strips longer shared)
    ∙ (ap (set (map (items_in old) strips) r) (now ∙ sym (get_or-map (items_in old) strips r d [] l)) ∙ set-get_or (map (items_in old) strips) r []))
