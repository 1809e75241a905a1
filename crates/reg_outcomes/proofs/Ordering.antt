-- The order of outcomes and of lines.
use Rattle.std.proofs.Common.{◌≡◌, inl, inr, Bool, true, false, List, refl, ap, sym, ◌∙◌}
use Rattle.std.specs.declared.cmp.Ordering.{Ordering}
use Rattle.std.specs.declared.cmp.Ordering.TheVariants.{Less, Equal, Greater}
use Rattle.std.specs.Ordering.{nat_cmp, ordering_then, ordering_reverse, is_eq, is_lt}
use Rattle.std.specs.Cmp.{IsTotalOrder, IsStrictWeakOrder}
use Rattle.std.specs.Fn.{Called, ComparesAs}
use Rattle.std.specs.List.Sorted.{IsSorted, IsSortedBy}
use Rattle.std.proofs.lemmas.Fn.{always_returns_same}
use Rattle.std.proofs.lemmas.List.Sorted.{ranks_by}
use denote.Param.Members.{Mut}
use denote.Ref.{Bor}
use Rattle.std.specs.Cmp.Lexicographic.{slice_cmp}
use Rattle.std.proofs.lemmas.Cmp.{nat_cmp_total, on_total, then_total, back_total, tied_itself, ranked}
use Rattle.reg_outcomes.specs.declared.told.ToldAnswer.{ToldAnswer}
use Rattle.reg_outcomes.specs.Told.{told_cmp}
use Rattle.reg_outcomes.proofs.Comparing.{equal_is}
use Rattle.reg_outcomes.proofs.ToldOrder.{outcomes_exact, outcomes_total}
use Rattle.reg_outcomes.specs.PlayTables.{Line, StandsBefore}
use Rattle.reg_outcomes.specs.Counts.{line_cmp}

pub keys_total : {K : Type 0} (items : K → List ToldAnswer)
    → IsTotalOrder (λ a b. slice_cmp told_cmp (items a) (items b))
keys_total items = on_total items outcomes_total

-- outcomes that compare alike are one
pub same_keys : (a b : List ToldAnswer) → is_eq (slice_cmp told_cmp a b) ≡ true → a ≡ b
same_keys a b h = outcomes_exact a b (equal_is (slice_cmp told_cmp a b) h)

pub tied_keys : (a b : List ToldAnswer) → a ≡ b → is_eq (slice_cmp told_cmp a b) ≡ true
tied_keys a b e = ap (λ l. is_eq (slice_cmp told_cmp a l)) (sym e) ∙ ap is_eq (tied_itself outcomes_total a)

-- whether two lines have one outcome
abbrev pub same_outcome : Line → Line → Bool
same_outcome a b = is_eq (slice_cmp told_cmp a.outcome b.outcome)

equal_back : (o : Ordering) → is_eq (ordering_reverse o) ≡ is_eq o
equal_back Less = refl
equal_back Equal = refl
equal_back Greater = refl

pub outcome_flips : (a b : Line) → same_outcome a b ≡ same_outcome b a
outcome_flips a b =
    ap is_eq (outcomes_total.antisymm a.outcome b.outcome) ∙ equal_back (slice_cmp told_cmp b.outcome a.outcome)

pub lines_total : IsTotalOrder line_cmp
lines_total =
    then_total (back_total (on_total (λ l. l.tally.count) nat_cmp_total)) (on_total (λ l. l.outcome) outcomes_total)

-- a line that is no smaller, with another outcome, stands after
pub stands_before : (a b : Line) → is_lt (line_cmp b a) ≡ false → same_outcome a b ≡ false → StandsBefore a b
stands_before a b up apart =
    go (nat_cmp a.tally.count b.tally.count) refl (slice_cmp told_cmp b.outcome a.outcome) refl up
  where
    go : (c : Ordering) → c ≡ nat_cmp a.tally.count b.tally.count → (o : Ordering) → o ≡ slice_cmp told_cmp b.outcome a.outcome → is_lt (ordering_then c o) ≡ false → StandsBefore a b
    go Less e o f h = absurd cc
    go Greater e o f h = inl (ranked a.tally.count b.tally.count Greater e)
    go Equal e Less f h = absurd cc
    go Equal e Equal f h =
        let tied : same_outcome a b ≡ true = outcome_flips a b ∙ ap is_eq (sym f) in
        absurd (cc)
    go Equal e Greater f h = inr (ranked a.tally.count b.tally.count Equal e, outcomes_total.antisymm a.outcome b.outcome ∙ ap ordering_reverse (sym f))

-- what a sort by a closure that compares so gives
pub sorted_by : {X : Type 0} {R : X → X → Ordering} → IsTotalOrder R
    → {F : Type 0} {g : Mut F (Bor X × (Bor X × Unit {0})) Ordering} {f : F} (xs : List X)
    → ((lt : X → X → Bool) → IsStrictWeakOrder lt → ComparesAs g lt f → IsSortedBy lt xs)
    → ((a : Bor X × (Bor X × Unit {0})) (r : Ordering) (f' : F) → Called g f a r f' → (r ≡ R a.0.now a.1.0.now) × (f' ≡ f)) → IsSorted R xs
sorted_by {R = R} total {g = g} {f = f} xs up h = up (λ x y. is_lt (R x y)) (ranks_by total (λ x. x)) (always_returns_same g (λ a r. is_lt r ≡ is_lt (R a.0.now a.1.0.now)) f (λ a r f' k. (ap is_lt (h a r f' k).0, (h a r f' k).1)))
