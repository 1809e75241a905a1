-- The casts of a heap in order: they are the same however the heap keeps them.
use Rattle.std.proofs.Common.{◌≡◌, ℕ, ◌+◌, ◌<◌, ◌≤◌, Bool, true, false, cond, List, [], ◌∷◌, ◌++◌, length, Option, Some}
use Rattle.std.proofs.Common.{None, refl, ap, sym, subst, ◌∙◌, inl, inr, arith}
use Rattle.std.specs.Prelude.{nat_eq, ◌&&◌, ◌⊎◌, slice_get, slice_index_or, IsPermutation}
use Rattle.std.specs.BinaryHeap.{IsHeap}
use Rattle.std.specs.List.{All, AllByRecursion, sum_by}
use Rattle.std.specs.Ordering.{is_lt}
use Rattle.std.specs.declared.cmp.Ordering.{Ordering}
use Rattle.std.specs.declared.cmp.Ordering.TheVariants.{Less, Equal, Greater}
use Rattle.std.proofs.lemmas.Bool.{cond-true, cond-false, cases_eq, and_parts, false≢true}
use Rattle.std.proofs.lemmas.Bool.Decides.{nat_tests}
use Rattle.std.proofs.lemmas.List.Sorted.{All-permutation, IsPermutation-sym, IsPermutation-refl, sum_by-IsPermutation}
use Rattle.std.proofs.lemmas.List.Sorted.{sum_by_pushed}
use Rattle.std.proofs.lemmas.List.Elements.{All-cons, All-tail}
use Rattle.reg_base.specs.declared.stamps.Stamp.{Stamp}
use Rattle.reg_base.specs.declared.stamps.Delivered.{Delivered}
use Rattle.reg_base.specs.Stamp.{stamp_cmp}
use Rattle.reg_base.specs.Order.{In, Below, below, Rising, insert}
use Rattle.reg_base.proofs.Orders.{Decides-below, below_irrefl, below_asym, cases_stamps, same_stamp}
use Rattle.reg_base.proofs.Lists.{in_insert, insert_new, insert_old, rising_insert}
use Rattle.reg_holdback.specs.declared.held.HeldCast.{HeldCast}
use Rattle.reg_holdback.specs.Heap.{later_cmp, in_order, same, many, AreApart}
use Rattle.reg_holdback.proofs.Casts.{stamp_rank}

-- one more is counted
many_more : (s : Stamp) (h : HeldCast) (hs : List HeldCast) → many s (h ∷ hs) ≡ same s h.cast.stamp + many s hs
many_more s h hs = sum_by_pushed (λ h. same s h.cast.stamp) h hs (h ∷ hs) (IsPermutation-refl (h ∷ hs))

same_itself : (s t : Stamp) → s ≡ t → same s t ≡ 1
same_itself s t e = subst (λ t. same s t ≡ 1) e (grind (arith, nat_tests))

-- either it counts, and both are the same, or it doesn't
same_cases : (s t : Stamp) → ((s ≡ t) × (same s t ≡ 1)) ⊎ (same s t ≡ 0)
same_cases s t = go (nat_eq s.time t.time) (nat_eq s.process t.process) refl refl
  where
    go : (a b : Bool) → nat_eq s.time t.time ≡ a → nat_eq s.process t.process ≡ b → ((s ≡ t) × (same s t ≡ 1)) ⊎ (same s t ≡ 0)
    go true true p q = let e = same_stamp s t (grind (arith, nat_tests)) (grind (arith, nat_tests)) in inl (e, same_itself s t e)
    go true false p q = inr (grind (arith, nat_tests))
    go false b p q = inr (grind (arith, nat_tests))

-- what stands in order is counted
counted : (c : Delivered) (hs : List HeldCast) → In c (in_order hs) → 1 ≤ many c.stamp hs
counted c [] i = absurd i
counted c (h ∷ hs) i = let m = many_more c.stamp h hs in elim (in_insert c h.cast (in_order hs) i) [
  | inl e ↦ let o = same_itself c.stamp h.cast.stamp (ap (λ (d : Delivered). d.stamp) e) in omega (arith, m, o)
  | inr j ↦ let k = counted c hs j in omega (arith, m, k)
]

-- a stamp that nothing there has isn't counted
uncounted : (s : Stamp) (hs : List HeldCast) → ((c : Delivered) → In c (in_order hs) → c.stamp ≡ s → ⊥) → many s hs ≡ 0
uncounted s [] f = refl
uncounted s (h ∷ hs) f = let m = many_more s h hs in elim (same_cases s h.cast.stamp) [
  | inl e ↦ absurd (f h.cast (insert_new h.cast h.cast (in_order hs) refl) (sym e.0))
  | inr z ↦ let k = uncounted s hs (λ c i. f c (insert_old c h.cast (in_order hs) i)) in omega (arith, m, z, k)
]

apart_more : (h : HeldCast) (hs : List HeldCast) → AreApart hs
    → ((c : Delivered) → In c (in_order hs) → c.stamp ≡ h.cast.stamp → ⊥) → AreApart (h ∷ hs)
apart_more h hs a f s = let m = many_more s h hs in elim (same_cases s h.cast.stamp) [
  | inl e ↦ let u = uncounted s hs (λ c i q. f c i (q ∙ e.0)) in omega (arith, m, e.1, u)
  | inr z ↦ let k = a s in omega (arith, m, z, k)
]

pub apart_less : (h : HeldCast) (hs : List HeldCast) → AreApart (h ∷ hs) → AreApart hs
apart_less h hs a s = let m = many_more s h hs in let k = a s in omega (arith, m, k)

pub apart_permuted : (xs ys : List HeldCast) → IsPermutation xs ys → AreApart xs → AreApart ys
apart_permuted xs ys p a s =
    let e = sum_by-IsPermutation (λ h. same s h.cast.stamp) xs ys p in let k = a s in omega (arith, e, k)

-- the stamp of the first of them is another one than those of the rest
first_apart : (h : HeldCast) (hs : List HeldCast) → AreApart (h ∷ hs) → (d : Delivered) → In d (in_order hs)
    → d.stamp ≡ h.cast.stamp → ⊥
first_apart h hs a d i e =
    let m = many_more d.stamp h hs in
    let o = same_itself d.stamp h.cast.stamp e in
    let k = counted d hs i in
    let l = a d.stamp in
    omega (arith, m, o, k, l)

pub rises : (hs : List HeldCast) → AreApart hs → Rising (in_order hs)
rises [] a = tt
rises (h ∷ hs) a =
    rising_insert h.cast (in_order hs) (rises hs (apart_less h hs a)) (λ d i. elim (cases_stamps d.stamp h.cast.stamp) [
      | inl e ↦ absurd (first_apart h hs a d i e)
      | inr k ↦ k
    ])

-- what holds of all that stand in order holds of all of the heap, and the other way round
each_kept : (P : Delivered → Type 0) (hs : List HeldCast) → ((c : Delivered) → In c (in_order hs) → P c)
    → All (λ h. P h.cast) hs
each_kept P [] f = λ k d l. absurd (omega (arith, l))
each_kept P (h ∷ hs) f = All-cons (λ h. P h.cast) h hs (f h.cast (insert_new h.cast h.cast (in_order hs) refl)) (each_kept P hs (λ c i. f c (insert_old c h.cast (in_order hs) i)))

each_in_order : (P : Delivered → Type 0) (hs : List HeldCast) → All (λ h. P h.cast) hs → (c : Delivered)
    → In c (in_order hs) → P c
each_in_order P [] a c i = absurd i
each_in_order P (h ∷ hs) a c i = elim (in_insert c h.cast (in_order hs) i) [
  | inl e ↦ subst P (sym e) (a 0 h (omega arith))
  | inr j ↦ each_in_order P hs (All-tail (λ h. P h.cast) h hs a) c j
]

in_permuted : (xs ys : List HeldCast) → IsPermutation xs ys → (c : Delivered) → In c (in_order xs) → In c (in_order ys)
in_permuted xs ys p = each_in_order (λ c. In c (in_order ys)) xs (All-permutation (λ (h : HeldCast). In h.cast (in_order ys)) ys xs (IsPermutation-sym xs ys p) (each_kept (λ c. In c (in_order ys)) ys (λ c i. i)))

-- two rising lists of the same casts are the same
one_rising : (xs ys : List Delivered) → Rising xs → Rising ys → ((c : Delivered) → In c xs → In c ys)
    → ((c : Delivered) → In c ys → In c xs) → xs ≡ ys
one_rising [] [] r s f g = refl
one_rising [] (y ∷ ys) r s f g = absurd (g y (inl refl))
one_rising (x ∷ xs) [] r s f g = absurd (f x (inl refl))
one_rising (x ∷ xs) (y ∷ ys) r s f g =
    let e = heads in ap (λ z. z ∷ xs) e ∙ ap (λ zs. y ∷ zs) (one_rising xs ys r.1 s.1 (down e) (up e))
  where
    heads : x ≡ y
    heads = elim (f x (inl refl)) [
      | inl e ↦ e
      | inr i ↦ elim (g y (inl refl)) [
        | inl e ↦ sym e
        | inr j ↦ absurd (below_asym y.stamp x.stamp (s.0 x i) (r.0 y j))
      ]
    ]

    down : x ≡ y → (c : Delivered) → In c xs → In c ys
    down e c i = elim (f c (inr i)) [
      | inl q ↦ absurd (below_irrefl c.stamp (subst (λ (d : Delivered). Below d.stamp c.stamp) (e ∙ sym q) (r.0 c i)))
      | inr j ↦ j
    ]

    up : x ≡ y → (c : Delivered) → In c ys → In c xs
    up e c i = elim (g c (inr i)) [
      | inl q ↦ absurd (below_irrefl c.stamp (subst (λ (d : Delivered). Below d.stamp c.stamp) (sym e ∙ sym q) (s.0 c i)))
      | inr j ↦ j
    ]

-- however the heap keeps them
pub one_order : (xs ys : List HeldCast) → IsPermutation xs ys → AreApart xs → in_order ys ≡ in_order xs
one_order xs ys p a = one_rising (in_order ys) (in_order xs) (rises ys (apart_permuted xs ys p a)) (rises xs a) (in_permuted ys xs (IsPermutation-sym xs ys p)) (in_permuted xs ys p)

-- one below all others comes first
insert_front : (c : Delivered) (l : List Delivered) → ((d : Delivered) → In d l → Below c.stamp d.stamp)
    → insert c l ≡ c ∷ l
insert_front c [] f = refl
insert_front c (x ∷ xs) f = cond-true (below c.stamp x.stamp) (c ∷ x ∷ xs) (x ∷ insert c xs) ((Decides-below c.stamp x.stamp).1 (f x (inl refl)))

not_above : (x y : HeldCast) → is_lt (later_cmp x y) ≡ false → Below y.cast.stamp x.cast.stamp → ⊥
not_above x y n b = go (stamp_cmp y.cast.stamp x.cast.stamp) refl n
  where
    go : (r : Ordering) → r ≡ stamp_cmp y.cast.stamp x.cast.stamp → is_lt r ≡ false → ⊥
    go Less e q = cc
    go Equal e q = below_irrefl y.cast.stamp (subst (λ (s : Stamp). Below y.cast.stamp s) (sym (stamp_rank y.cast.stamp x.cast.stamp Equal e)) b)
    go Greater e q = below_asym y.cast.stamp x.cast.stamp b (stamp_rank y.cast.stamp x.cast.stamp Greater e)

none_above : (x : HeldCast) (hs : List HeldCast) → AllByRecursion (λ y. is_lt (later_cmp x y) ≡ false) hs
    → (d : Delivered) → In d (in_order hs) → Below d.stamp x.cast.stamp → ⊥
none_above x [] u d i b = absurd i
none_above x (h ∷ hs) u d i b = elim (in_insert d h.cast (in_order hs) i) [
  | inl e ↦ not_above x h u.0 (subst (λ (c : Delivered). Below c.stamp x.cast.stamp) e b)
  | inr j ↦ none_above x hs u.1 d j b
]

-- the greatest of the heap is the first in order
pub top_first : (x : HeldCast) (hs : List HeldCast) → AreApart (x ∷ hs)
    → AllByRecursion (λ y. is_lt (later_cmp x y) ≡ false) hs → in_order (x ∷ hs) ≡ x.cast ∷ in_order hs
top_first x hs a u = insert_front x.cast (in_order hs) (λ d i. elim (cases_stamps d.stamp x.cast.stamp) [
  | inl e ↦ absurd (first_apart x hs a d i e)
  | inr k ↦ elim k [
    | inl b ↦ absurd (none_above x hs u d i b)
    | inr b ↦ b
  ]
])

length_insert : (c : Delivered) (l : List Delivered) → length (insert c l) ≡ length l + 1
length_insert c [] = refl
length_insert c (x ∷ xs) = go (below c.stamp x.stamp) (length_insert c xs)
  where
    go : (b : Bool) → length (insert c xs) ≡ length xs + 1 → length (cond b (c ∷ x ∷ xs) (x ∷ insert c xs)) ≡ length (x ∷ xs) + 1
    go true h = omega arith
    go false h = omega (arith, h)

pub as_many : (hs : List HeldCast) → length (in_order hs) ≡ length hs
as_many [] = refl
as_many (h ∷ hs) = let e = length_insert h.cast (in_order hs) in let k = as_many hs in omega (arith, e, k)

pub first_is : (hs : List HeldCast) (x : HeldCast) → AreApart hs → 0 < length hs → x ≡ slice_index_or hs 0 x
    → AllByRecursion (λ y. is_lt (later_cmp x y) ≡ false) hs → Some x.cast ≡ slice_get (in_order hs) 0
first_is [] x a l e u = absurd (omega (arith, l))
first_is (h ∷ hs) x a l e u =
    let t = top_first h hs a (subst (λ (z : HeldCast). AllByRecursion (λ y. is_lt (later_cmp z y) ≡ false) hs) e u.1) in
    ap (λ (z : HeldCast). Some z.cast) e ∙ sym (ap (λ l. slice_get l 0) t)

-- what is left where the greatest is taken out
pub popped : (hs left : List HeldCast) (x : HeldCast) → AreApart hs → IsPermutation hs (x ∷ left)
    → AllByRecursion (λ y. is_lt (later_cmp x y) ≡ false) left → in_order hs ≡ x.cast ∷ in_order left
popped hs left x a p u = sym (one_order hs (x ∷ left) p a) ∙ top_first x left (apart_permuted hs (x ∷ left) p a) u

-- what a heap of held casts keeps to
pub unchanged_kept : (hs new : List HeldCast) → new ≡ hs → IsHeap later_cmp hs × AreApart hs
    → IsHeap later_cmp new × AreApart new
unchanged_kept hs new e i = subst (λ l. IsHeap later_cmp l × AreApart l) (sym e) i

-- none that is held has this stamp
pub apart_fresh : (h : HeldCast) (hs : List HeldCast) (held : List Delivered) → in_order hs ≡ held → AreApart hs
    → ((c : Delivered) → In c held → c.stamp ≡ h.cast.stamp → ⊥) → AreApart (h ∷ hs)
apart_fresh h hs held v a f =
    apart_more h hs a (subst (λ l. (c : Delivered) → In c l → c.stamp ≡ h.cast.stamp → ⊥) (sym v) f)
