-- The interleavings of scripts on one memory, operation by operation, and what they tell. To be believed: promises
-- speak of it.
use Rattle.std.specs.Prelude.{ℕ, ◌≡◌, ◌+◌, ◌<◌, ◌≤◌, nat_lt, if◌then◌else◌, All, List, [], ◌∷◌, ◌++◌, length, map}
use Rattle.std.specs.Prelude.{replicate, slice_index, slice_index_or, slice_set}
use Rattle.std.specs.declared.cmp.Ordering.TheVariants.{Less}
use Rattle.std.specs.Cmp.Lexicographic.{slice_cmp}
use Rattle.reg_base.specs.declared.limits.TheConstants.{MOST_PROCESSES, MOST_OPERATIONS}
use Rattle.reg_base.specs.declared.memory.Op.{Op}
use Rattle.reg_base.specs.declared.memory.OpId.{OpId}
use Rattle.reg_base.specs.declared.memory.Answer.{Answer}
use Rattle.reg_base.specs.Memory.{Memory, after, answer_of, blank, register_of, tells}
use Rattle.reg_checkers.specs.History.{IsAt}
use Rattle.reg_outcomes.specs.declared.told.ToldAnswer.{ToldAnswer}
use Rattle.reg_outcomes.specs.Told.{told_cmp}
use Rattle.reg_outcomes.specs.declared.faults.InterleavingFault.{InterleavingFault}
use Rattle.reg_outcomes.specs.declared.faults.InterleavingFault.TheVariants.{TooManyStages, OutOfMemory}

-- the script of a process
abbrev pub script_of : List (List Op) → ℕ → List Op
script_of scripts p = slice_index_or scripts p []

-- Where scripts stand: how many operations of each are done, the memory, and what those operations told, in the order
-- of an outcome.
pub record Stage : Type 0 where
  pub next : List ℕ
  pub memory : Memory
  pub told : List ToldAnswer

-- the stage at which no operation is done
abbrev pub first_stage : ℕ → ℕ → Stage
first_stage n registers = record { next = replicate n 0; memory = blank registers; told = [] }

-- an answer stands after all that its process and those before it were told
abbrev pub told_behind : ToldAnswer → List ToldAnswer → List ToldAnswer
told_behind t [] = t ∷ []
told_behind t (x ∷ xs) = if nat_lt t.process x.process then t ∷ x ∷ xs else x ∷ told_behind t xs

-- what is told once this operation has its answer, which a write doesn't tell
abbrev pub told_after : Op → OpId → Answer → List ToldAnswer → List ToldAnswer
told_after op id answer told =
    if tells op then told_behind (record { process = id.process; number = id.number; answer = answer }) told else told

-- the process did its next operation, which is this one
abbrev pub stage_after : ℕ → Op → Stage → Stage
stage_after p op s = record {
  next = slice_set s.next p (slice_index s.next p + 1);
  memory = after op s.memory;
  told = told_after op (record { process = p; number = slice_index s.next p }) (answer_of op s.memory) s.told;
}

-- Turns, the processes one after another, lead to this stage: at its turn a process does the next operation of its
-- script.
pub data Leads (scripts : List (List Op)) (registers : ℕ) : List ℕ → Stage → Type 0 where
  Nothing : Leads scripts registers [] (first_stage (length scripts) registers)
  Turn : {turns : List ℕ} {s : Stage} (p : ℕ) (op : Op) → Leads scripts registers turns s
      → IsAt (script_of scripts p) (slice_index s.next p) op
      → Leads scripts registers (turns ++ p ∷ []) (stage_after p op s)

-- turns, and what they tell
pub record Interleaving : Type 0 where
  pub turns : List ℕ
  pub told : List ToldAnswer

-- The turns use the scripts up, and this is told then.
pub record IsInterleaving (scripts : List (List Op)) (registers : ℕ) (i : Interleaving) : Type 0 where
  pub last : Stage
  pub leads : Leads scripts registers i.turns last
  pub used_up : last.next ≡ map length scripts
  pub tells : last.told ≡ i.told

-- These have all outcomes: each is an interleaving, none tells what is not among them, and what they tell rises, so
-- each outcome stands once.
pub record AreAll (scripts : List (List Op)) (registers : ℕ) (found : List Interleaving) : Type 0 where
  pub each : (k : ℕ) (i : Interleaving) → IsAt found k i → IsInterleaving scripts registers i
  pub all : (i : Interleaving) → IsInterleaving scripts registers i
      → (k : ℕ) × (j : Interleaving) × IsAt found k j × (j.told ≡ i.told)
  pub rising : (k l : ℕ) (i j : Interleaving) → IsAt found k i → IsAt found l j → k < l
      → slice_cmp told_cmp i.told j.told ≡ Less

-- Some number of turns leads to more stages than the limit.
pub record IsWider (scripts : List (List Op)) (registers limit : ℕ) : Type 0 where
  pub turns : ℕ
  pub stages : List Stage
  pub more : limit < length stages
  pub once : (i j : ℕ) (s : Stage) → IsAt stages i s → IsAt stages j s → i ≡ j
  pub led : (k : ℕ) (s : Stage) → IsAt stages k s
      → (behind : List ℕ) × Leads scripts registers behind s × (length behind ≡ turns)

-- how many stages there are: those that turns lead to, each counted once
pub record CountsStages (scripts : List (List Op)) (registers n : ℕ) : Type 0 where
  pub stages : List Stage
  pub count : n ≡ length stages
  pub once : (i j : ℕ) (s : Stage) → IsAt stages i s → IsAt stages j s → i ≡ j
  pub led : (k : ℕ) (s : Stage) → IsAt stages k s → (turns : List ℕ) × Leads scripts registers turns s
  pub all : (turns : List ℕ) (s : Stage) → Leads scripts registers turns s → (k : ℕ) × IsAt stages k s

-- there are more stages than `most`: turns lead to each stage of a longer list, in which none stands twice
pub record HasMoreStages (scripts : List (List Op)) (registers most : ℕ) : Type 0 where
  pub stages : List Stage
  pub more : most < length stages
  pub once : (i j : ℕ) (s : Stage) → IsAt stages i s → IsAt stages j s → i ≡ j
  pub led : (k : ℕ) (s : Stage) → IsAt stages k s → (turns : List ℕ) × Leads scripts registers turns s

-- a script that can be run: not too long, and each operation on a register that there is
pub record IsPlayable (registers : ℕ) (script : List Op) : Type 0 where
  pub few : length script ≤ MOST_OPERATIONS
  pub known : All (λ op. register_of op < registers) script

-- scripts that can be interleaved: not too many, each of which can be run
pub record ArePlayable (scripts : List (List Op)) (registers : ℕ) : Type 0 where
  pub few : length scripts ≤ MOST_PROCESSES
  pub each : All (IsPlayable registers) scripts

-- why no outcomes are given
abbrev pub IsFault : List (List Op) → ℕ → ℕ → InterleavingFault → Type 0
IsFault scripts registers limit TooManyStages = IsWider scripts registers limit
IsFault scripts registers limit OutOfMemory = Unit {0}

-- why no outcomes of few stages are given
abbrev pub IsFewFault : List (List Op) → ℕ → ℕ → InterleavingFault → Type 0
IsFewFault scripts registers most TooManyStages = HasMoreStages scripts registers most
IsFewFault scripts registers most OutOfMemory = Unit {0}
