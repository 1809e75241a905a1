-- Layers of stages under way: all stages after some number of turns, each with turns that lead to it. They carry a
-- proof: no promise speaks of them.
use Rattle.std.specs.Prelude.{ℕ, ◌≡◌, ◌≢◌, ◌<◌, ◌≤◌, ◌⊎◌, List, [], ◌∷◌, ◌++◌, length, map, slice_index, Vec}
use Rattle.std.specs.List.{AllZip, sum_by}
use Rattle.std.specs.BTreeMap.{BTreeMap}
use Rattle.std.specs.declared.cmp.Ordering.{Ordering}
use Rattle.std.specs.Ordering.{nat_cmp, ordering_then}
use Rattle.std.specs.Cmp.Lexicographic.{slice_cmp}
use Rattle.reg_base.specs.declared.limits.TheConstants.{MOST_OPERATIONS}
use Rattle.reg_base.specs.declared.memory.Op.{Op}
use Rattle.reg_base.specs.Memory.{register_of}
use Rattle.reg_base.specs.Order.{In}
use Rattle.reg_checkers.specs.History.{IsAt}
use Rattle.reg_outcomes.specs.declared.told.ToldAnswer.{ToldAnswer}
use Rattle.reg_outcomes.specs.Told.{told_cmp}
use Rattle.reg_outcomes.specs.declared.faults.InterleavingFault.{InterleavingFault}
use Rattle.reg_outcomes.specs.declared.faults.InterleavingFault.TheVariants.{TooManyStages, OutOfMemory}
use Rattle.reg_outcomes.specs.declared.interleavings.stages.Stage.{Stage as Held}
use Rattle.reg_outcomes.specs.Interleavings.{Interleaving, Stage, Leads, script_of, stage_after}

-- the stage that a value of the code stands for
abbrev pub stage_of : {A : Type 0} → Held A → Stage
stage_of s = record { next = s.next.items; memory = s.memory.items; told = s.told.items }

-- an entry of a layer: a stage, and turns that lead to it
abbrev pub reached : {A : Type 0} → Held A × Vec ℕ A → Stage × List ℕ
reached e = (stage_of e.0, e.1.items)

-- the entries of a layer
abbrev pub entries_of : {A : Type 0} → BTreeMap (Held A) (Vec ℕ A) → List (Stage × List ℕ)
entries_of layer = map reached layer.entries

-- the order of the stages in a layer
abbrev pub stage_cmp : Stage → Stage → Ordering
stage_cmp a b =
    ordering_then (slice_cmp nat_cmp a.next b.next)
    (ordering_then (slice_cmp nat_cmp a.memory b.memory) (slice_cmp told_cmp a.told b.told))

-- The code can make each step from this stage.
pub record IsReady (scripts : List (List Op)) (s : Stage) : Type 0 where
  pub within : AllZip (λ n script. n ≤ length script) s.next scripts
  pub short : (p : ℕ) → length (script_of scripts p) ≤ MOST_OPERATIONS
  pub known : (p k : ℕ) (op : Op) → IsAt (script_of scripts p) k op → register_of op < length s.memory

-- The next operation of a process leads from one entry to another.
pub record IsStep (scripts : List (List Op)) (p : ℕ) (from to : Stage × List ℕ) : Type 0 where
  pub op : Op
  pub next : IsAt (script_of scripts p) (slice_index from.0.next p) op
  pub stage : to.0 ≡ stage_after p op from.0
  pub turns : to.1 ≡ from.1 ++ p ∷ []

-- a step of one of the first n processes, of any process, and of any process from any of these entries, whatever the
-- steps of a process are
abbrev pub IsFirstOf : (ℕ → Stage × List ℕ → Stage × List ℕ → Type 0) → ℕ → Stage × List ℕ → Stage × List ℕ → Type 0
IsFirstOf Step n from to = (p : ℕ) × (p < n) × Step p from to

abbrev pub IsSomeOf : (ℕ → Stage × List ℕ → Stage × List ℕ → Type 0) → Stage × List ℕ → Stage × List ℕ → Type 0
IsSomeOf Step from to = (p : ℕ) × Step p from to

abbrev pub IsAfterSome : (ℕ → Stage × List ℕ → Stage × List ℕ → Type 0) → List (Stage × List ℕ) → Stage × List ℕ
    → Type 0
IsAfterSome Step layer to = (from : Stage × List ℕ) × In from layer × IsSomeOf Step from to

abbrev pub IsFirstStep : List (List Op) → ℕ → Stage × List ℕ → Stage × List ℕ → Type 0
IsFirstStep scripts = IsFirstOf (IsStep scripts)

abbrev pub IsNext : List (List Op) → Stage × List ℕ → Stage × List ℕ → Type 0
IsNext scripts = IsSomeOf (IsStep scripts)

abbrev pub IsNextOf : List (List Op) → List (Stage × List ℕ) → Stage × List ℕ → Type 0
IsNextOf scripts = IsAfterSome (IsStep scripts)

-- Entries were added: only new ones, and for each new one an entry with its key is there.
pub record Adds {Key : Type 0} (IsNew : Key × List ℕ → Type 0) (old new : List (Key × List ℕ)) : Type 0 where
  pub kept : (f : Key × List ℕ) → In f old → In f new
  pub only : (f : Key × List ℕ) → In f new → In f old ⊎ IsNew f
  pub added : (f : Key × List ℕ) → IsNew f → (g : Key × List ℕ) × In g new × (g.0 ≡ f.0)

-- no two entries have one key
abbrev pub AreApart : {Key : Type 0} → List (Key × List ℕ) → Type 0
AreApart [] = Unit {0}
AreApart {Key} (f ∷ fs) = ((g : Key × List ℕ) → In g fs → f.0 ≢ g.0) × AreApart fs

-- There are more entries than the limit: old ones, and new ones.
pub record Overflows {Key : Type 0} (limit : ℕ) (IsNew : Key × List ℕ → Type 0)
    (old : List (Key × List ℕ)) : Type 0 where
  pub found : List (Key × List ℕ)
  pub more : limit < length found
  pub apart : AreApart found
  pub only : (f : Key × List ℕ) → In f found → In f old ⊎ IsNew f

-- why not all were added
abbrev pub Refuses : {Key : Type 0} → ℕ → (Key × List ℕ → Type 0) → List (Key × List ℕ) → InterleavingFault → Type 0
Refuses limit IsNew old TooManyStages = Overflows limit IsNew old
Refuses limit IsNew old OutOfMemory = Unit {0}

-- all stages after k turns, each with turns that lead to it
pub record IsLayer (scripts : List (List Op)) (registers k : ℕ) (layer : List (Stage × List ℕ)) : Type 0 where
  pub each : (f : Stage × List ℕ) → In f layer → Leads scripts registers f.1 f.0 × (length f.1 ≡ k)
  pub all : (turns : List ℕ) (s : Stage) → Leads scripts registers turns s → length turns ≡ k
      → (f : Stage × List ℕ) × In f layer × (f.0 ≡ s)

-- how many operations there are
abbrev pub operation_count : List (List Op) → ℕ
operation_count scripts = sum_by length scripts

-- an outcome of the code, and turns that have it
abbrev pub told_entry : {A : Type 0} → Vec ToldAnswer A × Vec ℕ A → List ToldAnswer × List ℕ
told_entry e = (e.0.items, e.1.items)

abbrev pub told_entries : {A : Type 0} → BTreeMap (Vec ToldAnswer A) (Vec ℕ A) → List (List ToldAnswer × List ℕ)
told_entries outcomes = map told_entry outcomes.entries

abbrev pub interleaving_of : {A : Type 0} → Vec ToldAnswer A × Vec ℕ A → Interleaving
interleaving_of e = record { turns = e.1.items; told = e.0.items }

-- one of these entries tells this
abbrev pub IsToldIn : List (Stage × List ℕ) → List ToldAnswer × List ℕ → Type 0
IsToldIn layer o = (f : Stage × List ℕ) × In f layer × (o ≡ (f.0.told, f.1))

-- no stage stands twice
abbrev pub AreDifferent : List Stage → Type 0
AreDifferent [] = Unit {0}
AreDifferent (s ∷ ss) = ((t : Stage) → In t ss → s ≢ t) × AreDifferent ss

-- the number of stages after k turns or fewer
pub record AreCounted (scripts : List (List Op)) (registers k n : ℕ) : Type 0 where
  pub stages : List Stage
  pub count : n ≡ length stages
  pub different : AreDifferent stages
  pub led : (s : Stage) → In s stages → (turns : List ℕ) × Leads scripts registers turns s × (length turns ≤ k)
  pub all : (turns : List ℕ) (s : Stage) → Leads scripts registers turns s → length turns ≤ k → In s stages
