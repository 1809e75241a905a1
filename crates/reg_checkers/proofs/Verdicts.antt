-- The verdicts of the checkers, from those of their passes.
use Rattle.std.proofs.Common.{ℕ, ◌≡◌, ◌⊎◌, inl, inr, List, Result, Ok, Err, sym, subst}
use Rattle.std.specs.Prelude.{IfErr, OnOk}
use Rattle.reg_base.specs.declared.memory.OpId.{OpId}
use Rattle.reg_checkers.specs.declared.entries.Entry.{Entry}
use Rattle.reg_checkers.specs.declared.entries.Point.{Point}
use Rattle.reg_checkers.specs.declared.facts.Fact.{Fact}
use Rattle.reg_checkers.specs.declared.faults.CheckFault.{CheckFault}
use Rattle.reg_checkers.specs.declared.faults.CheckFault.TheVariants.{Answer, Outside, Falling, OutOfMemory}
use Rattle.reg_checkers.specs.History.{IsHistory}
use Rattle.reg_checkers.specs.Orders.{KeepsOwnOrder}
use Rattle.reg_checkers.specs.Checks.{IsFalling, IsFirst, IsPointFault, IsSerialFault, NoneOfThree, PointVerdict}
use Rattle.reg_checkers.specs.Checks.{SerialVerdict, ids_of}
use Rattle.reg_checkers.specs.Facts.{IsOutsideFact, IsWrongFact}
use Rattle.reg_checkers.specs.Selections.{IsSelected}
use Rattle.reg_checkers.proofs.Bridges.{legal, not_broken, first_is, wrong_there}
use Rattle.reg_checkers.proofs.PointFacts.{first_outside_is, outside_there, inside_called, inside_answered, never_falls}

-- why the pass over the answers stopped
abbrev pub IsAnswerFault : ℕ → List Fact → CheckFault → Type 0
IsAnswerFault registers facts f =
    (f ≡ OutOfMemory) ⊎ ((place : ℕ) × (f ≡ Answer place) × IsFirst (IsWrongFact registers facts) place)

-- why the passes over the points stopped
abbrev pub IsPlaceFault : List Point → List Fact → CheckFault → Type 0
IsPlaceFault ps facts f = ((place : ℕ) × (f ≡ Outside place) × IsFirst (IsOutsideFact ps facts) place)
    ⊎ ((place : ℕ) × (f ≡ Falling place) × ((k : ℕ) → ¬ IsOutsideFact ps facts k) × IsFirst (IsFalling ps) place)

pub serial : {T : Type 0} (count registers : ℕ) (h : List Entry) → IsHistory count registers h
    → (ids : List OpId) (facts : List Fact) → IsSelected h ids facts → NoneOfThree h ids → KeepsOwnOrder ids
    → (r : Result T CheckFault) → OnOk r ((k : ℕ) → ¬ IsWrongFact registers facts k) → IfErr r (λ f. IsAnswerFault registers facts f) → SerialVerdict registers h ids r
serial count registers h good ids facts sel none own (Ok x) right wrong = record { selection = sel.selection; legal = legal count registers h good ids facts sel.facts_of right; own_order = own }
serial count registers h good ids facts sel none own (Err f) right (inl e) =
    subst (λ x. IsSerialFault registers h ids x) (sym e) tt
serial count registers h good ids facts sel none own (Err f) right (inr w) =
    subst (λ x. IsSerialFault registers h ids x) (sym w.1) (none, not_broken ids own, first_is count registers h good ids facts sel.facts_of w.0 w.2)

module _ (count registers : ℕ) (h : List Entry) (good : IsHistory count registers h) (ps : List Point) (facts : List Fact) (sel : IsSelected h (ids_of ps) facts) (none : NoneOfThree h (ids_of ps)) where
  pub point_answer : (f : CheckFault) → IsAnswerFault registers facts f → IsPointFault registers h ps f
  point_answer f (inl e) = subst (λ x. IsPointFault registers h ps x) (sym e) tt
  point_answer f (inr w) = subst (λ x. IsPointFault registers h ps x) (sym w.1) (none, first_is count registers h good (ids_of ps) facts sel.facts_of w.0 w.2)

  pub points : {T : Type 0} → ((k : ℕ) → ¬ IsWrongFact registers facts k) → (r : Result T CheckFault)
      → OnOk r (((k : ℕ) → ¬ IsOutsideFact ps facts k) × ((k : ℕ) → ¬ IsFalling ps k))
      → IfErr r (λ f. IsPlaceFault ps facts f) → PointVerdict registers h ps r
  points answers (Ok x) right wrong = record {
    selection = sel.selection;
    legal = legal count registers h good (ids_of ps) facts sel.facts_of answers;
    called = inside_called count registers h good ps facts sel.facts_of right.0;
    answered = inside_answered count registers h good ps facts sel.facts_of right.0;
    rising = never_falls ps right.1;
  }
  points answers (Err f) right (inl w) = subst (λ x. IsPointFault registers h ps x) (sym w.1) (
    none,
    λ k at. answers k (wrong_there count registers h good (ids_of ps) facts sel.facts_of k at),
    first_outside_is count registers h good ps facts sel.facts_of w.0 w.2,
  )
  points answers (Err f) right (inr w) = subst (λ x. IsPointFault registers h ps x) (sym w.1) (
    none,
    λ k at. answers k (wrong_there count registers h good (ids_of ps) facts sel.facts_of k at),
    λ k at. w.2 k (outside_there count registers h good ps facts sel.facts_of k at),
    w.3,
  )
