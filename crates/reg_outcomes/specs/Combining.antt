-- Combinations of answers under way. They carry a proof: no promise speaks of them.
use Rattle.std.specs.Prelude.{ℕ, ◌≡◌, ◌≢◌, ◌⊎◌, List, [], ◌∷◌, ◌++◌, length, Vec}
use Rattle.std.specs.Ordering.{is_eq}
use Rattle.std.specs.Cmp.Lexicographic.{slice_cmp}
use Rattle.std.specs.Set.{remove_key}
use Rattle.std.specs.BTreeSet.{BTreeSet}
use Rattle.reg_base.specs.Lists.{lists}
use Rattle.reg_base.specs.Order.{In}
use Rattle.reg_checkers.specs.History.{IsAt}
use Rattle.reg_outcomes.specs.declared.told.ToldAnswer.{ToldAnswer}
use Rattle.reg_outcomes.specs.Told.{told_cmp}
use Rattle.reg_outcomes.specs.Nevers.{StandsAt}

-- the lists that a set holds
abbrev pub lists_of : {A : Type 0} → BTreeSet (Vec ToldAnswer A) → List (List ToldAnswer)
lists_of set = lists set.keys

-- answers at the first k places, each of which stands there in some outcome
pub record IsCombination (outcomes : List (List ToldAnswer)) (k : ℕ) (told : List ToldAnswer) : Type 0 where
  pub count : length told ≡ k
  pub each : (j : ℕ) (v : ToldAnswer) → IsAt told j v → StandsAt outcomes j v

-- no element stands twice
abbrev pub AreOnce : {X : Type 0} → List X → Type 0
AreOnce [] = Unit {0}
AreOnce {X} (x ∷ xs) = ((y : X) → In y xs → x ≢ y) × AreOnce xs

-- these are all combinations, each once
pub record AreCombinations (outcomes : List (List ToldAnswer)) (k : ℕ) (list : List (List ToldAnswer)) : Type 0 where
  pub only : (c : List ToldAnswer) → In c list → IsCombination outcomes k c
  pub all : (c : List ToldAnswer) → IsCombination outcomes k c → In c list
  pub once : AreOnce list

-- these are the answers at a place
pub record AreValuesAt (outcomes : List (List ToldAnswer)) (k : ℕ) (values : List ToldAnswer) : Type 0 where
  pub only : (v : ToldAnswer) → In v values → StandsAt outcomes k v
  pub all : (v : ToldAnswer) → StandsAt outcomes k v → In v values

-- all that is new was added, and nothing else
pub record Grows {X : Type 0} (IsNew : X → Type 0) (old new : List X) : Type 0 where
  pub kept : (x : X) → In x old → In x new
  pub only : (x : X) → In x new → In x old ⊎ IsNew x
  pub added : (x : X) → IsNew x → In x new

-- the combination with one of these answers after it
abbrev pub IsLonger : List ToldAnswer → List ToldAnswer → List ToldAnswer → Type 0
IsLonger values c to = (v : ToldAnswer) × In v values × (to ≡ c ++ v ∷ [])

-- one of the combinations, with one of these answers after it
abbrev pub IsLongerOf : List ToldAnswer → List (List ToldAnswer) → List ToldAnswer → Type 0
IsLongerOf values list to = (c : List ToldAnswer) × In c list × IsLonger values c to

module _ {K : Type 0} (read : K → List ToldAnswer) where
  -- the keys without the first that holds this list
  abbrev pub cut : List ToldAnswer → List K → List K
  cut told ks = remove_key (λ k. is_eq (slice_cmp told_cmp told (read k))) ks

  -- the keys without the first that holds one of these lists, list after list
  abbrev pub cut_all : List (List ToldAnswer) → List K → List K
  cut_all [] ks = ks
  cut_all (o ∷ os) ks = cut_all os (cut o ks)
