-- Lists sorted by rank, then by process, then by number.
use Rattle.std.proofs.Common.{◌≡◌, ◌≢◌, ℕ, ◌<◌, ◌⊎◌, Bool, true, false, not, List, refl, sym, ap, ◌∙◌, subst, inl, inr}
use Rattle.std.proofs.Common.{arith}
use Rattle.std.specs.Prelude.{◌&&◌}
use Rattle.std.specs.List.Sorted.{ties}
use Rattle.std.specs.Ordering.{nat_cmp, is_lt}
use Rattle.std.specs.declared.cmp.Ordering.TheVariants.{Less, Equal, Greater}
use Rattle.std.proofs.lemmas.Bool.{cases_order}
use Rattle.std.proofs.lemmas.Bool.Decides.{nat_tests}
use Rattle.reg_base.specs.Order.{In}
use Rattle.reg_world.specs.declared.witnesses.Ranked.{Ranked}
use Rattle.reg_world.specs.Witnesses.{ranked_cmp, IsSortedFrom}
use Rattle.reg_world.proofs.lists.Rises.{RisesBy, IsFew, few_kept, apart_from_few, rises_from_sorted, in_kept, kept_in}

-- by rank, then by process, then by number
abbrev pub Lower : Ranked → Ranked → Type 0
Lower a b = (a.rank < b.rank) ⊎ ((a.rank ≡ b.rank) × ((a.id.process < b.id.process) ⊎ ((a.id.process ≡ b.id.process) × (a.id.number < b.id.number))))

abbrev pub lower : Ranked → Ranked → Bool
lower a b = is_lt (ranked_cmp a b)

less_is : (x y : ℕ) → x < y → nat_cmp x y ≡ Less
less_is x y h = grind (arith, nat_tests)

same_is : (x y : ℕ) → x ≡ y → nat_cmp x y ≡ Equal
same_is x y h = grind (arith, nat_tests)

more_is : (x y : ℕ) → y < x → nat_cmp x y ≡ Greater
more_is x y h = grind (arith, nat_tests)

pub lower_trans : (a b c : Ranked) → Lower a b → Lower b c → Lower a c
lower_trans a b c h g = grind arith

lower_is : (a b : Ranked) → Lower a b → (lower a b ≡ true) × (lower b a ≡ false)
lower_is a b (inl h) = (rw (less_is a.rank b.rank h), rw (more_is b.rank a.rank h))
lower_is a b (inr (e, inl h)) = (rw (same_is a.rank b.rank e, less_is a.id.process b.id.process h), rw (same_is b.rank a.rank (sym e), more_is b.id.process a.id.process h))
lower_is a b (inr (e, inr (p, h))) = (rw (same_is a.rank b.rank e, same_is a.id.process b.id.process p, less_is a.id.number b.id.number h), rw (same_is b.rank a.rank (sym e), same_is b.id.process a.id.process (sym p), more_is b.id.number a.id.number h))

same_ranked : (a b : Ranked) → a.rank ≡ b.rank → a.id.process ≡ b.id.process → a.id.number ≡ b.id.number → a ≡ b
same_ranked a b r p n = λ i. record { rank = r i; id = record { process = p i; number = n i } }

pub compare : (a b : Ranked) → Lower a b ⊎ ((a ≡ b) ⊎ Lower b a)
compare a b = elim (cases_order a.rank b.rank) [
  | inl r ↦ elim (cases_order a.id.process b.id.process) [
    | inl p ↦ elim (cases_order a.id.number b.id.number) [
      | inl n ↦ inr (inl (same_ranked a b r p n))
      | inr n ↦ elim n [ inl l ↦ inl (inr (r, inr (p, l))) | inr l ↦ inr (inr (inr (sym r, inr (sym p, l)))) ]
    ]
    | inr p ↦ elim p [ inl l ↦ inl (inr (r, inl l)) | inr l ↦ inr (inr (inr (sym r, inl l))) ]
  ]
  | inr r ↦ elim r [ inl l ↦ inl (inl l) | inr l ↦ inr (inr (inl l)) ]
]

up : (a b : Ranked) → lower b a ≡ false → a ≢ b → Lower a b
up a b e ne = elim (compare a b) [
  | inl h ↦ h
  | inr q ↦ elim q [ inl s ↦ absurd (ne s) | inr h ↦ absurd (let t = (lower_is b a h).0 in let bad : true ≡ false = sym t ∙ e in cc) ]
]

tied_self : (x : Ranked) → ties lower x x ≡ true
tied_self x =
    rw (same_is x.rank x.rank refl, same_is x.id.process x.id.process refl, same_is x.id.number x.id.number refl)

tied_same : (x a : Ranked) → ties lower x a ≡ true → a ≡ x
tied_same x a e = elim (compare x a) [
  | inl h ↦ absurd (let p = lower_is x a h in let q : false ≡ true = sym (ap (λ b. not b && not (lower a x)) p.0) ∙ e in cc)
  | inr q ↦ elim q [
    | inl s ↦ sym s
    | inr h ↦ absurd (let p = lower_is a x h in let z : false ≡ true = sym (rw (p.0, p.1)) ∙ e in cc)
  ]
]

module _ (xs ys : List Ranked) (S : IsSortedFrom xs ys) where
  pub sorted_in : (x : Ranked) → In x ys → In x xs
  sorted_in x i = (in_kept (ties lower x) x xs (subst (λ l. In x l) (S.stable x) (kept_in (ties lower x) x ys i (tied_self x)))).0

  pub in_sorted : (x : Ranked) → In x xs → In x ys
  in_sorted x i = (in_kept (ties lower x) x ys (subst (λ l. In x l) (sym (S.stable x)) (kept_in (ties lower x) x xs i (tied_self x)))).0

  pub sorted_rises : RisesBy (λ (a b : Ranked). a ≢ b) xs → RisesBy Lower ys
  sorted_rises apart =
      rises_from_sorted Lower lower ys up lower_trans (λ k d l. S.sorted k d (omega arith) l)
      (apart_from_few (ties lower) ys tied_self (λ x. subst IsFew (sym (S.stable x)) (few_kept (ties lower x) xs apart (λ a b p q. tied_same x a p ∙ sym (tied_same x b q)))))
