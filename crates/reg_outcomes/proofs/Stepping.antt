-- The next operation of a process, and the stages that it leads to.
use Rattle.std.proofs.Common.{◌≡◌, ◌⊎◌, inl, inr, ℕ, zero, suc, ◌+◌, ◌<◌, ◌≤◌, List, [], ◌∷◌, ◌++◌, length, map, refl}
use Rattle.std.proofs.Common.{ap, ap₂, sym, ◌∙◌, subst, arith, append_assoc}
use Rattle.std.specs.Prelude.{Vec, ◌-◌, ◌^◌, slice_index}
use Rattle.std.specs.List.{AllZip}
use Rattle.std.proofs.lemmas.Bool.{cases_eq}
use Rattle.std.proofs.lemmas.Option.{slice_get_within, same_Some}
use Rattle.reg_base.specs.declared.memory.Op.{Op}
use Rattle.reg_base.specs.Order.{In}
use Rattle.reg_checkers.specs.History.{IsAt}
use Rattle.reg_outcomes.specs.declared.interleavings.layers.GrowingLayer.{GrowingLayer}
use Rattle.reg_outcomes.specs.declared.interleavings.stages.Stage.{Stage as Held}
use Rattle.reg_outcomes.specs.Interleavings.{Stage, script_of, stage_after}
use Rattle.reg_outcomes.specs.Layers.{Adds, IsAfterSome, IsFirstOf, IsFirstStep, IsNext, IsReady, IsSomeOf, IsStep}
use Rattle.reg_outcomes.specs.Layers.{entries_of, reached}

-- so many operations of each script are behind
abbrev pub AreBehind : List ℕ → List (List Op) → Type 0
AreBehind next scripts = AllZip (λ n script. n ≤ length script) next scripts

pub as_many : (next : List ℕ) (scripts : List (List Op)) → AreBehind next scripts → length next ≡ length scripts
as_many [] [] h = refl
as_many [] (s ∷ ss) h = absurd h
as_many (n ∷ ns) [] h = absurd h
as_many (n ∷ ns) (s ∷ ss) h = ap suc (as_many ns ss h.1)

-- a process with an operation has a script
pub has_script : (scripts : List (List Op)) (p k : ℕ) (op : Op) → IsAt (script_of scripts p) k op → p < length scripts
has_script [] p k op h = absurd cc
has_script (s ∷ ss) zero k op h = omega arith
has_script (s ∷ ss) (suc p) k op h = let l = has_script ss p k op h in omega (arith, l)

pub number_fits : (scripts : List (List Op)) (s : Stage) (p : ℕ) (op : Op) → IsReady scripts s
    → IsAt (script_of scripts p) (slice_index s.next p) op → slice_index s.next p < 2 ^ 32 - 1
number_fits scripts s p op ready at =
    let inside : slice_index s.next p < length (script_of scripts p) = slice_get_within (script_of scripts p) (slice_index s.next p) op at in
    let short = ready.short p in
    omega (arith, inside, short)

module _ (scripts : List (List Op)) (p : ℕ) (op : Op) (from to : Stage × List ℕ) where
  pub is_step : (later : Stage) → IsAt (script_of scripts p) (slice_index from.0.next p) op
      → later ≡ stage_after p op from.0 → to ≡ (later, from.1 ++ p ∷ []) → IsStep scripts p from to
  is_step later at after e = record {
    op = op;
    next = at;
    stage = ap (λ (f : Stage × List ℕ). f.0) e ∙ after;
    turns = ap (λ (f : Stage × List ℕ). f.1) e;
  }

  pub step_is : (later : Stage) → IsAt (script_of scripts p) (slice_index from.0.next p) op
      → later ≡ stage_after p op from.0 → IsStep scripts p from to → to ≡ (later, from.1 ++ p ∷ [])
  step_is later at after step =
      let same : step.op ≡ op = same_Some step.op op (sym step.next ∙ at) in
      ap₂ (λ (s : Stage) (t : List ℕ). (s, t)) (step.stage ∙ ap (λ o. stage_after p o from.0) same ∙ sym after) step.turns

-- the steps of the first processes, and of the next one
module _ (Step : ℕ → Stage × List ℕ → Stage × List ℕ → Type 0) (n : ℕ) (from f : Stage × List ℕ) where
  pub one_more_step : IsFirstOf Step n from f ⊎ Step n from f → IsFirstOf Step (n + 1) from f
  one_more_step (inl (p, lt, step)) = (p, omega arith, step)
  one_more_step (inr step) = (n, omega arith, step)

  pub step_cases : IsFirstOf Step (n + 1) from f → IsFirstOf Step n from f ⊎ Step n from f
  step_cases (p, lt, step) = elim (cases_eq p n) [
    | inl e ↦ inr (subst (λ q. Step q from f) e step)
    | inr ne ↦ inl (p, omega arith, step)
  ]

  pub some_step : IsFirstOf Step n from f ⊎ Step n from f → IsSomeOf Step from f
  some_step (inl h) = (h.0, h.2)
  some_step (inr step) = (n, step)

-- a process with a step is one of those with scripts
pub within_steps : (scripts : List (List Op)) (n : ℕ) (from f : Stage × List ℕ) → length scripts ≤ n
    → IsNext scripts from f → IsFirstStep scripts n from f
within_steps scripts n from f e (p, step) =
    (p, (let l = has_script scripts p (slice_index from.0.next p) step.op step.next in omega (arith, l)), step)

-- one entry more
pub in_more : {X Y : Type 0} (read : X → Y) (xs : List X) (x : X) (y : Y) → In y (map read xs) ⊎ (y ≡ read x)
    → In y (map read (xs ++ x ∷ []))
in_more read [] x y (inl h) = absurd h
in_more read [] x y (inr e) = inl e
in_more read (z ∷ xs) x y (inl (inl e)) = inl e
in_more read (z ∷ xs) x y (inl (inr h)) = inr (in_more read xs x y (inl h))
in_more read (z ∷ xs) x y (inr e) = inr (in_more read xs x y (inr e))

pub in_cases : {X Y : Type 0} (read : X → Y) (xs : List X) (x : X) (y : Y) → In y (map read (xs ++ x ∷ []))
    → In y (map read xs) ⊎ (y ≡ read x)
in_cases read [] x y (inl e) = inr e
in_cases read [] x y (inr h) = absurd h
in_cases read (z ∷ xs) x y (inl e) = inl (inl e)
in_cases read (z ∷ xs) x y (inr h) = elim (in_cases read xs x y h) [ inl old ↦ inl (inr old) | inr e ↦ inr e ]

pub in_start : {X Y : Type 0} (read : X → Y) (xs rest : List X) (y : Y) → In y (map read xs)
    → In y (map read (xs ++ rest))
in_start read [] rest y h = absurd h
in_start read (z ∷ xs) rest y (inl e) = inl e
in_start read (z ∷ xs) rest y (inr h) = inr (in_start read xs rest y h)

-- the next one is among those that are behind
pub one_behind : {X : Type 0} (behind ahead rest all : List X) (x : X) → behind ++ ahead ≡ all → ahead ≡ x ∷ rest
    → (behind ++ x ∷ []) ++ rest ≡ all
one_behind behind ahead rest all x e f = append_assoc behind (x ∷ []) rest ∙ ap (λ l. behind ++ l) (sym f) ∙ e

pub among : {X Y : Type 0} (read : X → Y) (behind rest all : List X) (y : Y) → behind ++ rest ≡ all
    → In y (map read behind) → In y (map read all)
among read behind rest all y e h = subst (λ l. In y (map read l)) e (in_start read behind rest y h)

module _ {X : Type 0} (read : X → Stage × List ℕ) (Step : ℕ → Stage × List ℕ → Stage × List ℕ → Type 0) (xs : List X) (x : X) (f : Stage × List ℕ) where
  pub next_more : IsAfterSome Step (map read xs) f ⊎ IsSomeOf Step (read x) f
      → IsAfterSome Step (map read (xs ++ x ∷ [])) f
  next_more (inl (from, at, next)) = (from, in_more read xs x from (inl at), next)
  next_more (inr next) = (read x, in_more read xs x (read x) (inr refl), next)

  pub next_cases : IsAfterSome Step (map read (xs ++ x ∷ [])) f
      → IsAfterSome Step (map read xs) f ⊎ IsSomeOf Step (read x) f
  next_cases (from, at, next) = elim (in_cases read xs x from at) [ inl old ↦ inl (from, old, next) | inr e ↦ inr (subst (λ r. IsSomeOf Step r f) e next) ]

-- entries are behind, and what follows them was added, within the limit
pub record IsUnderWay {A : Type 0} (Step : ℕ → Stage × List ℕ → Stage × List ℕ → Type 0) (limit : ℕ) (behind ahead all : List (Held A × Vec ℕ A)) (next : GrowingLayer A) : Type 0 where
  pub split : behind ++ ahead ≡ all
  pub added : Adds (IsAfterSome Step (map reached behind)) [] (entries_of next.layer)
  pub narrow : length next.layer.entries ≤ limit
  pub kept : next.limit ≡ limit
