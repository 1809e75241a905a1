-- What might have been answered instead, key by key.
use Rattle.std.proofs.Common.{◌≡◌, ◌⊎◌, inl, inr, ℕ, ◌+◌, List, [], ◌∷◌, ◌++◌, Option, length, length-append, ap, sym}
use Rattle.std.proofs.Common.{◌∙◌, subst, Vec, arith}
use Rattle.reg_base.specs.declared.memory.Answer.{Answer}
use Rattle.reg_checkers.specs.History.{IsAt}
use Rattle.reg_checkers.proofs.Places.{same_at}
use Rattle.reg_checkers.proofs.Pushing.{at_push}
use Rattle.reg_judge.specs.declared.rulings.keys.Ruling.{Ruling}
use Rattle.reg_judge.specs.declared.rulings.rows.Row.{Row}
use Rattle.reg_judge.specs.Instead.{AreToldOf, IsToldOf}
use Rattle.reg_judge.specs.Keys.{rows_of_key}

-- of the first n keys
pub record AreToldTo {A : Type 0} (n processes : ℕ) (rows : List Row) (rulings : List Ruling) (told : List (Option (Vec Answer A))) : Type 0 where
  pub all : length told ≡ n
  pub each : (key : ℕ) (ruling : Ruling) (answers : Option (Vec Answer A)) → IsAt rulings key ruling
      → IsAt told key answers → IsToldOf processes (rows_of_key key rows) ruling answers

pub told_more : {A : Type 0} (n processes : ℕ) (rows : List Row) (rulings : List Ruling)
    (old new : List (Option (Vec Answer A))) (ruling : Ruling) (answers : Option (Vec Answer A))
    → IsAt rulings n ruling → IsToldOf processes (rows_of_key n rows) ruling answers → new ≡ old ++ answers ∷ []
    → AreToldTo n processes rows rulings old → AreToldTo (n + 1) processes rows rulings new
told_more {A} n processes rows rulings old new ruling answers here is grown before = record {
  all = ap length grown ∙ length-append old (answers ∷ []) ∙ ap (λ (x : ℕ). x + 1) before.all;
  each = λ k r a at there. go k r a at (at_push old k answers a (subst (λ (l : List (Option (Vec Answer A))). IsAt l k a) grown there));
}
  where
    go : (k : ℕ) (r : Ruling) (a : Option (Vec Answer A)) → IsAt rulings k r → IsAt old k a ⊎ ((k ≡ length old) × (a ≡ answers)) → IsToldOf processes (rows_of_key k rows) r a
    go k r a at (inl there) = before.each k r a at there
    go k r a at (inr (last, same)) =
        let place : n ≡ k = (let e = before.all in omega (arith, last, e)) in
        let one : ruling ≡ r = same_at rulings k ruling r (subst (λ (j : ℕ). IsAt rulings j ruling) place here) at in
        subst (λ (x : Option (Vec Answer A)). IsToldOf processes (rows_of_key k rows) r x) (sym same) (subst (λ (x : Ruling). IsToldOf processes (rows_of_key k rows) x answers) one (subst (λ (j : ℕ). IsToldOf processes (rows_of_key j rows) ruling answers) place is))

pub told_all : {A : Type 0} (n processes : ℕ) (rows : List Row) (rulings : List Ruling)
    (told : List (Option (Vec Answer A)))
    → n ≡ length rulings → AreToldTo n processes rows rulings told → AreToldOf processes rows rulings told
told_all n processes rows rulings told end are = record { all = are.all ∙ end; each = are.each }
