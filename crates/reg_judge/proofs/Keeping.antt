-- Lists of stages that grow.
use Rattle.std.proofs.Common.{◌≡◌, inl, inr, ℕ, ◌+◌, ◌<◌, ◌≤◌, List, [], ◌∷◌, ◌++◌, get_or, length, set, Vec, sym}
use Rattle.std.proofs.Common.{◌∙◌, subst, arith}
use Rattle.std.specs.Int.{bit_at}
use Rattle.std.proofs.lemmas.Bool.{cases_eq}
use Rattle.std.proofs.lemmas.Option.{slice_get-get_or}
use Rattle.reg_checkers.specs.History.{IsAt}
use Rattle.reg_checkers.proofs.Places.{element_at, get_set_other, get_set_same, same_at}
use Rattle.reg_checkers.proofs.Places.{within}
use Rattle.reg_checkers.proofs.Pushing.{at_push}
use Rattle.reg_judge.specs.declared.stages.Mover.{Mover}
use Rattle.reg_judge.specs.declared.stages.Stage.{Stage}
use Rattle.reg_judge.specs.Stages.{AreDoneTo, Extends, HasAfter, HasAfterTo, HasEach, HasEachTo, HasStage}
use Rattle.reg_judge.specs.Stages.{HasWithout, IsDone, IsRead, Keeps, KeepsTo, Reads}
use Rattle.reg_judge.specs.Searching.{AreFirst, IsFirst}

pub at_get : {X : Type 0} (xs : List X) (k : ℕ) (d : X) → k < length xs → IsAt xs k (get_or xs k d)
at_get xs k d lt = slice_get-get_or xs k d lt

pub keeps_more : (k p : ℕ) (old new newer : List Stage) (s : Stage) → IsAt old k s → Extends new newer
    → (bit_at s.placed p ≡ 1 → HasWithout p newer s) → KeepsTo k p old new → KeepsTo (k + 1) p old newer
keeps_more k p old new newer s here extends kept before j t lt at one = elim (cases_eq j k) [
  | inl is ↦
      let same : s ≡ t = same_at old k s t here (subst (λ (i : ℕ). IsAt old i t) is at) in
      subst (HasWithout p newer) same (kept (subst (λ (x : Stage). bit_at x.placed p ≡ 1) (sym same) one))
  | inr not ↦ let was = before j t (omega (arith, lt, not)) at one in (was.0, was.1, extends was.0 was.1 was.2, was.3, was.4)
]

pub keeps_all : (k p : ℕ) (old new : List Stage) → length old ≤ k → KeepsTo k p old new → Keeps p old new
keeps_all k p old new le kept j s at one = kept j s (let lt = within old j s at in omega (arith, lt, le)) at one

pub stage_extends : (old new : List Stage) (placed value : ℕ) → Extends old new → HasStage old placed value
    → HasStage new placed value
stage_extends old new placed value extends (j, s, at, same, is) = (j, s, extends j s at, same, is)

pub after_extends : (movers : List Mover) (s : Stage) (m : Mover) (old new : List Stage) → Extends old new
    → HasAfter movers s m old → HasAfter movers s m new
after_extends movers s m old new extends has may =
    let there = has may in (there.0, there.1, extends there.0 there.1 there.2, there.3)

pub done_extends : (movers : List Mover) (p : ℕ) (s : Stage) (old new : List Stage) → Extends old new
    → IsDone movers p old s → IsDone movers p new s
done_extends movers p s old new extends (inl one) = inl one
done_extends movers p s old new extends (inr all) =
    inr (λ i m at. after_extends movers s m old new extends (all i m at))

pub each_more : (k : ℕ) (these old new : List Stage) (s : Stage) → IsAt these k s → Extends old new
    → HasStage new s.placed s.value → HasEachTo k old these → HasEachTo (k + 1) new these
each_more k these old new s here extends has before j t lt at = elim (cases_eq j k) [
  | inl is ↦ subst (λ (x : Stage). HasStage new x.placed x.value) (same_at these k s t here (subst (λ (i : ℕ). IsAt these i t) is at)) has
  | inr not ↦ stage_extends old new t.placed t.value extends (before j t (omega (arith, lt, not)) at)
]

pub each_all : (k : ℕ) (these stages : List Stage) → length these ≤ k → HasEachTo k stages these → HasEach stages these
each_all k these stages le has j s at = has j s (let lt = within these j s at in omega (arith, lt, le)) at

pub after_more : (k : ℕ) (movers : List Mover) (s : Stage) (old new : List Stage) (m : Mover) → IsAt movers k m
    → Extends old new → HasAfter movers s m new → HasAfterTo k movers s old → HasAfterTo (k + 1) movers s new
after_more k movers s old new m here extends has before i x lt at = elim (cases_eq i k) [
  | inl is ↦ subst (λ (y : Mover). HasAfter movers s y new) (same_at movers k m x here (subst (λ (l : ℕ). IsAt movers l x) is at)) has
  | inr not ↦ after_extends movers s x old new extends (before i x (omega (arith, lt, not)) at)
]

pub after_all : (k : ℕ) (movers : List Mover) (s : Stage) (stages : List Stage) → length movers ≤ k
    → HasAfterTo k movers s stages → (i : ℕ) (m : Mover) → IsAt movers i m → HasAfter movers s m stages
after_all k movers s stages le has i m at = has i m (let lt = within movers i m at in omega (arith, lt, le)) at

pub done_more : (k : ℕ) (movers : List Mover) (p : ℕ) (old new : List Stage) (s : Stage) → IsAt old k s
    → Extends old new → IsDone movers p new s → AreDoneTo k movers p old → AreDoneTo (k + 1) movers p new
done_more k movers p old new s here extends done before j t lt at = elim (cases_eq j k) [
  | inl is ↦ subst (IsDone movers p new) (same_at new k s t (extends k s here) (subst (λ (i : ℕ). IsAt new i t) is at)) done
  | inr not ↦
      let less : j < length old = (let inside = within old k s here in omega (arith, lt, not, inside)) in
      let was = element_at old j less in
      let same : was.0 ≡ t = same_at new j was.0 t (extends j was.0 was.1) at in
      done_extends movers p t old new extends (subst (IsDone movers p old) same (before j was.0 (omega (arith, lt, not)) was.1))
]

pub extends_twice : (a b c : List Stage) → Extends a b → Extends b c → Extends a c
extends_twice a b c one two j s at = two j s (one j s at)

pub read_twice : (p : ℕ) (a b c : Stage) → IsRead p a b → IsRead p b c → IsRead p a c
read_twice p a b c (value, bits) (value_2, bits_2) = (
  value_2 ∙ value,
  λ q. elim (bits_2 q) [
    | inr new ↦ inr new
    | inl same ↦ elim (bits q) [
      | inl old ↦ inl (same ∙ old)
      | inr (is, one) ↦ inr (is, same ∙ one)
    ]
  ],
)

pub reads_more : (p k : ℕ) (old now : List Stage) (d t : Stage) → k < length now → IsRead p (get_or now k d) t
    → Reads p old now → Reads p old (set now k t)
reads_more p k old now d t lt read before j s at = (let was = before j s at in elim (cases_eq j k) [
  | inl is ↦
      let same : get_or now k d ≡ was.0 = same_at now k (get_or now k d) was.0 (at_get now k d lt) (subst (λ (i : ℕ). IsAt now i was.0) is was.1) in
      (t, subst (λ (i : ℕ). IsAt (set now k t) i t) (sym is) (get_set_same now k t lt), read_twice p s was.0 t was.2 (subst (λ (x : Stage). IsRead p x t) same read))
  | inr apart ↦ (was.0, get_set_other now k j t apart ∙ was.1, was.2)
])

pub first_more : {A : Type 0} (layers new : List (Vec Stage A)) (layer : Vec Stage A) → new ≡ layers ++ layer ∷ []
    → IsFirst layer.items → AreFirst layers → AreFirst new
first_more {A} layers new layer e first before r l at =
    elim (at_push layers r layer l (subst (λ (x : List (Vec Stage A)). IsAt x r l) e at)) [
      | inl was ↦ before r l was
      | inr (_, is) ↦ subst (λ (x : Vec Stage A). IsFirst x.items) (sym is) first
    ]

pub first_none : {A : Type 0} (layers : List (Vec Stage A)) → layers ≡ [] → AreFirst layers
first_none {A} layers e r l at = absurd (nothing r l (subst (λ (x : List (Vec Stage A)). IsAt x r l) e at))
  where
    nothing : {X : Type 0} (i : ℕ) (x : X) → IsAt [] i x → ⊥
    nothing i x at = cc
