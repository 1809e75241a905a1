-- The search overlooks no arrangement.
use Rattle.std.proofs.Common.{◌≡◌, ℕ, zero, suc, ◌<◌, inl, inr, Bool, true, false, not, List, [], ◌∷◌, map, Option}
use Rattle.std.proofs.Common.{Some, None, refl, sym, ap, ◌∙◌, subst, arith}
use Rattle.std.specs.Prelude.{◌&&◌, ◌||◌, ◌==◌, nat_lt, cond}
use Rattle.std.specs.List.{list_any, list_all}
use Rattle.std.proofs.lemmas.Bool.{eqb-true, eq-eqb, ltb-true, and_parts, and_from, not-true, false≢true}
use Rattle.std.proofs.lemmas.Option.{same_Some}
use Rattle.reg_base.specs.declared.memory.OpId.{OpId}
use Rattle.reg_base.specs.declared.memory.Answer.{Answer}
use Rattle.reg_base.specs.declared.memory.Answer.TheVariants.{Done, Value, Unequal}
use Rattle.reg_base.specs.Memory.{Memory, answer_of, after}
use Rattle.reg_base.specs.Order.{In}
use Rattle.reg_checkers.specs.History.{IsAt}
use Rattle.reg_checkers.specs.Orders.{IsDistinct, KeepsOwnOrder}
use Rattle.reg_checkers.proofs.Places.{IsAt-map}
use Rattle.reg_world.proofs.lists.Members.{in_at}
use Rattle.reg_world.proofs.lists.Rises.{in_kept, kept_in}
use Rattle.reg_records.proofs.Search.{Fact, is_id, same_answer, is_told, is_finished, is_own_before, may_come, without}
use Rattle.reg_records.proofs.Search.{none_legal, always_before}
use Rattle.reg_process.proofs.Deliver.{any_found}

abbrev pub ids_of : List Fact → List OpId
ids_of xs = map (λ f. f.id) xs

-- each answer is that of the memory after those before it
abbrev pub IsLegalOn : Memory → List Fact → Type 0
IsLegalOn m [] = Unit {0}
IsLegalOn m (x ∷ xs) = ((y : Answer) → x.told ≡ Some y → y ≡ answer_of x.op m) × IsLegalOn (after x.op m) xs

-- xs is a serial arrangement of some of fs on this memory, and of all that are finished
pub record IsArranged (fs : List Fact) (m : Memory) (xs : List Fact) : Type 0 where
  pub known : (f : Fact) → In f xs → In f fs
  pub all : (f : Fact) → In f fs → is_finished f ≡ true → In f xs
  pub distinct : IsDistinct (ids_of xs)
  pub own : KeepsOwnOrder (ids_of xs)
  pub legal : IsLegalOn m xs

pub is_id_same : (a b : OpId) → is_id a b ≡ true → a ≡ b
is_id_same a b t = let r = and_parts (a.process == b.process) (a.number == b.number) t in (λ i. record { process = eqb-true a.process b.process r.0 i; number = eqb-true a.number b.number r.1 i })

pub same_is_id : (a b : OpId) → a ≡ b → is_id a b ≡ true
same_is_id a b e = and_from (a.process == b.process) (a.number == b.number) (eq-eqb a.process b.process (ap (λ (x : OpId). x.process) e)) (eq-eqb a.number b.number (ap (λ (x : OpId). x.number) e))

same_told : (y x : Answer) → y ≡ x → same_answer y x ≡ true
same_told Done x e = subst (λ z. same_answer Done z ≡ true) e refl
same_told Unequal x e = subst (λ z. same_answer Unequal z ≡ true) e refl
same_told (Value u) x e = subst (λ z. same_answer (Value u) z ≡ true) e (eq-eqb u u refl)

all_at : {X : Type 0} (p : X → Bool) (xs : List X) (x : X) → list_all p xs ≡ true → In x xs → p x ≡ true
all_at p [] x h i = absurd i
all_at p (y ∷ xs) x h (inl e) = ap p e ∙ (and_parts (p y) (list_all p xs) h).0
all_at p (y ∷ xs) x h (inr i) = all_at p xs x (and_parts (p y) (list_all p xs) h).1 i

not_from : (b : Bool) → b ≡ false → not b ≡ true
not_from false e = refl
not_from true e = sym e

told_right : (o : Option Answer) (x : Answer) → ((y : Answer) → o ≡ Some y → y ≡ x) → is_told o x ≡ true
told_right None x h = refl
told_right (Some y) x h = same_told y x (h y refl)

-- what stands first may come
may : (fs : List Fact) (m : Memory) (x : Fact) (xs : List Fact) → IsArranged fs m (x ∷ xs) → may_come fs m x ≡ true
may fs m x xs A = and_from (is_told x.told (answer_of x.op m)) (not (list_any (is_own_before x) fs)) (told_right x.told (answer_of x.op m) A.legal.0) (not_from (list_any (is_own_before x) fs) (none (list_any (is_own_before x) fs) refl))
  where
    found : list_any (is_own_before x) fs ≡ true → ⊥
    found t =
        let g = any_found (is_own_before x) fs t in
        let parts = and_parts (is_finished g.0) ((g.0.id.process == x.id.process) && nat_lt g.0.id.number x.id.number) g.2 in
        let own = and_parts (g.0.id.process == x.id.process) (nat_lt g.0.id.number x.id.number) parts.1 in
        let less = ltb-true g.0.id.number x.id.number own.1 in
        let there = in_at g.0 (x ∷ xs) (A.all g.0 g.1 parts.0) in
        let bad = A.own there.0 0 g.0.id x.id (IsAt-map (λ (f : Fact). f.id) (x ∷ xs) there.0 g.0 there.1) refl (eqb-true g.0.id.process x.id.process own.0) less in
        let z : ⊥ = omega (arith, bad) in z

    none : (b : Bool) → list_any (is_own_before x) fs ≡ b → list_any (is_own_before x) fs ≡ false
    none true t = absurd (found t)
    none false t = t

-- the others are arranged after it
rest : (fs : List Fact) (m : Memory) (x : Fact) (xs : List Fact) → IsArranged fs m (x ∷ xs)
    → IsArranged (without x.id fs) (after x.op m) xs
rest fs m x xs A = record {
  known = λ f i. kept_in (λ f. not (is_id f.id x.id)) f fs (A.known f (inr i)) (not_from (is_id f.id x.id) (other f i (is_id f.id x.id) refl));
  all = λ f i done.
      let r = in_kept (λ f. not (is_id f.id x.id)) f fs i in
      elim (A.all f r.0 done) [
        | inl e ↦ absurd (false≢true (sym (not-true (is_id f.id x.id) r.1) ∙ same_is_id f.id x.id (ap (λ (z : Fact). z.id) e)))
        | inr j ↦ j
      ];
  distinct = λ i j id a b. let e = A.distinct (suc i) (suc j) id a b in (let z : i ≡ j = omega (arith, e) in z);
  own = λ i j a b at1 at2 same less. let l = A.own (suc i) (suc j) a b at1 at2 same less in (let z : i < j = omega (arith, l) in z);
  legal = A.legal.1;
}
  where
    other : (f : Fact) → In f xs → (b : Bool) → is_id f.id x.id ≡ b → is_id f.id x.id ≡ false
    other f i true t =
        let there = in_at f xs i in
        let e = A.distinct 0 (suc there.0) x.id refl (IsAt-map (λ (f : Fact). f.id) (x ∷ xs) (suc there.0) f there.1 ∙ ap Some (is_id_same f.id x.id t)) in
        absurd (omega (arith, e))
    other f i false t = t

or_right_of : (a b : Bool) → a ≡ true → (not a || b) ≡ true → b ≡ true
or_right_of true b e h = h
or_right_of false b e h = absurd (false≢true e)

pub none_arranged : (n : ℕ) (fs : List Fact) (m : Memory) (xs : List Fact) → none_legal n fs m ≡ true
    → IsArranged fs m xs → ⊥
none_arranged zero fs m xs h A = false≢true h
none_arranged (suc n) fs m xs h A = go xs A (λ gs m' ys. none_arranged n gs m' ys)
  where
    parts : (list_any is_finished fs ≡ true) × (list_all (λ f. not (may_come fs m f) || none_legal n (without f.id fs) (after f.op m)) fs ≡ true)
    parts = and_parts (list_any is_finished fs) (list_all (λ f. not (may_come fs m f) || none_legal n (without f.id fs) (after f.op m)) fs) h

    go : (xs : List Fact) → IsArranged fs m xs → ((gs : List Fact) (m' : Memory) (ys : List Fact) → none_legal n gs m' ≡ true → IsArranged gs m' ys → ⊥) → ⊥
    go [] A next = let g = any_found is_finished fs parts.0 in A.all g.0 g.1 g.2
    go (x ∷ xs) A next =
        let here = all_at (λ f. not (may_come fs m f) || none_legal n (without f.id fs) (after f.op m)) fs x parts.1 (A.known x (inl refl)) in
        next (without x.id fs) (after x.op m) xs (or_right_of (may_come fs m x) (none_legal n (without x.id fs) (after x.op m)) (may fs m x xs A) here) (rest fs m x xs A)

-- in an arrangement that the search allows, a does not stand before b
pub never_before : (b a : OpId) (n : ℕ) (fs : List Fact) (m : Memory) (xs : List Fact) → always_before b a n fs m ≡ true
    → IsArranged fs m xs → (i j : ℕ) → IsAt (ids_of xs) i a → IsAt (ids_of xs) j b → i < j → ⊥
never_before b a zero fs m xs h A = λ i j at1 at2 less. false≢true h
never_before b a (suc n) fs m xs h A = go xs A (λ gs m' ys. never_before b a n gs m' ys)
  where
    behind : (x : Fact) (xs : List Fact) → IsArranged fs m (x ∷ xs) → ((gs : List Fact) (m' : Memory) (ys : List Fact) → always_before b a n gs m' ≡ true → IsArranged gs m' ys → (i j : ℕ) → IsAt (ids_of ys) i a → IsAt (ids_of ys) j b → i < j → ⊥) → (c d : Bool) → is_id x.id b ≡ c → is_id x.id a ≡ d → (c || cond d (none_legal n (without x.id fs) (after x.op m)) (always_before b a n (without x.id fs) (after x.op m))) ≡ true
        → (i j : ℕ) → IsAt (ids_of (x ∷ xs)) i a → IsAt (ids_of (x ∷ xs)) j b → i < j → ⊥
    behind x xs A next true d is_b is_a t i j at1 at2 less =
        let e = A.distinct 0 j b (ap Some (is_id_same x.id b is_b)) at2 in
        let z : ⊥ = omega (arith, e, less) in z
    behind x xs A next false true is_b is_a t i j at1 at2 less = none_arranged n (without x.id fs) (after x.op m) xs t (rest fs m x xs A)
    behind x xs A next false false is_b is_a t zero j at1 at2 less = false≢true (sym is_a ∙ same_is_id x.id a (same_Some x.id a at1))
    behind x xs A next false false is_b is_a t (suc i) zero at1 at2 less = let z : ⊥ = omega (arith, less) in z
    behind x xs A next false false is_b is_a t (suc i) (suc j) at1 at2 less =
        next (without x.id fs) (after x.op m) xs t (rest fs m x xs A) i j at1 at2 (let z : i < j = omega (arith, less) in z)

    go : (xs : List Fact) → IsArranged fs m xs → ((gs : List Fact) (m' : Memory) (ys : List Fact) → always_before b a n gs m' ≡ true → IsArranged gs m' ys → (i j : ℕ) → IsAt (ids_of ys) i a → IsAt (ids_of ys) j b → i < j → ⊥) → (i j : ℕ) → IsAt (ids_of xs) i a → IsAt (ids_of xs) j b → i < j → ⊥
    go [] A next = λ i j at1 at2 less. absurd (let z : ⊥ = cc in z)
    go (x ∷ xs) A next =
        let here = all_at (λ f. not (may_come fs m f) || (is_id f.id b || cond (is_id f.id a) (none_legal n (without f.id fs) (after f.op m)) (always_before b a n (without f.id fs) (after f.op m)))) fs x h (A.known x (inl refl)) in
        let t = or_right_of (may_come fs m x) (is_id x.id b || cond (is_id x.id a) (none_legal n (without x.id fs) (after x.op m)) (always_before b a n (without x.id fs) (after x.op m))) (may fs m x xs A) here in
        behind x xs A next (is_id x.id b) (is_id x.id a) refl refl t
