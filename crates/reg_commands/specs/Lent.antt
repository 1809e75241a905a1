-- What a command tells of bytes, and the same over memory that a caller lends.
use Rattle.std.specs.Prelude.{ℕ, ◌≡◌, ◌≤◌, ◌++◌, min, take, drop, Bool, true, List, [], Some, length}
use Rattle.std.specs.Io.KnownBytes.{Appends}
use Rattle.reg_base.specs.declared.limits.TheConstants.{LONGEST_INPUT}
use Rattle.reg_commands.specs.declared.faults.Fault.{Fault}
use Rattle.reg_commands.specs.declared.lent.Lengths.{Lengths}
use Rattle.reg_commands.specs.Statuses.{Stops}

-- The status, the answer and the line of a fault that a command gives to a text: what is said of `run_command`.
pub record IsTold {F : Type 0} (Denies : Type 0) (of_fault : Fault → F) (line : F → List ℕ)
    (IsBlamed : F → List ℕ → Type 0) (IsAnswer : Bool → (List ℕ → Type 0) → List ℕ → Type 0) (text : List ℕ)
    (status : ℕ) (answer told : List ℕ) : Type 0 where
  pub range : status ≤ 1
  pub within : status ≡ 0 → length text ≤ LONGEST_INPUT
  pub answered : status ≡ 0 → IsAnswer true (Appends (Some []) (Some answer)) text
  pub stopped : status ≡ 1
      → Stops Denies of_fault line IsBlamed IsAnswer (Some text) (answer ≡ []) (Some []) (Some answer) (told ≡ [])
      (Some []) (Some told)
  pub quiet : status ≡ 0 → told ≡ []

-- the bytes over the front of what was in a room, as many as it takes
abbrev pub filled : List ℕ → List ℕ → List ℕ
filled bytes old = take (min (length bytes) (length old)) bytes ++ drop (min (length bytes) (length old)) old

-- An answer and the line of a fault, of which `IsSo` holds with the status: the rooms for them hold the front of them,
-- and the lengths are theirs, whatever the room.
pub record Fills (IsSo : ℕ → List ℕ → List ℕ → Type 0) (status : ℕ) (old new errors_old errors_new : List ℕ)
    (lengths : Lengths) : Type 0 where
  pub answer : List ℕ
  pub told : List ℕ
  pub is_so : IsSo status answer told
  pub output : new ≡ filled answer old
  pub errors : errors_new ≡ filled told errors_old
  pub many : lengths.output ≡ length answer
  pub few : lengths.errors ≡ length told
