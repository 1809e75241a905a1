-- What a status says of a command, with what the reader, the writer and the error stream show of themselves.
use Rattle.std.specs.Prelude.{ℕ, ◌≡◌, ◌≢◌, ◌⊎◌, Bool, false, List, Option, IfSome}
use Rattle.std.specs.Io.KnownBytes.{Appends}
use Rattle.reg_text.specs.Writing.{AppendsPart}
use Rattle.reg_commands.specs.declared.faults.Fault.{Fault}
use Rattle.reg_commands.specs.declared.faults.Fault.TheVariants.{Output}

-- a yes or a no was written
abbrev pub IsEither : (Bool → (List ℕ → Type 0) → List ℕ → Type 0) → (List ℕ → Type 0) → List ℕ → Type 0
IsEither IsAnswer Wrote text = (agrees : Bool) × IsAnswer agrees Wrote text

-- The fault is one of those that all commands tell, or one by which something is said of some text, also where the
-- input isn't known.
abbrev pub CanTell : {F : Type 0} → (Fault → F) → (F → List ℕ → Type 0) → F → Type 0
CanTell of_fault IsBlamed fault = ((told : Fault) × (fault ≡ of_fault told)) ⊎ ((text : List ℕ) × IsBlamed fault text)

-- The line of a fault was told, or a first part of it. The fault holds of the input, and nothing was written unless the
-- writer failed; then a first part of an answer was.
abbrev pub Refuses : {F : Type 0} → (Fault → F) → (F → List ℕ) → (F → List ℕ → Type 0)
    → (Bool → (List ℕ → Type 0) → List ℕ → Type 0) → Option (List ℕ) → Type 0 → Option (List ℕ) → Option (List ℕ)
    → Option (List ℕ) → Option (List ℕ) → Type 0
Refuses {F} of_fault line IsBlamed IsAnswer input unwritten old new was is =
    (f : F) × CanTell of_fault IsBlamed f × IfSome input (IsBlamed f) × (f ≢ of_fault Output → unwritten)
    × (f ≡ of_fault Output → IfSome input (IsEither IsAnswer (AppendsPart old new))) × AppendsPart was is (line f)

-- Status 1: the answer is a no, which was written, and nothing was told; or the line of a fault was.
abbrev pub Stops : {F : Type 0} → Type 0 → (Fault → F) → (F → List ℕ) → (F → List ℕ → Type 0)
    → (Bool → (List ℕ → Type 0) → List ℕ → Type 0) → Option (List ℕ) → Type 0 → Option (List ℕ) → Option (List ℕ)
    → Type 0 → Option (List ℕ) → Option (List ℕ) → Type 0
Stops Denies of_fault line IsBlamed IsAnswer input unwritten old new untold was is =
    (Denies × IfSome input (IsAnswer false (Appends old new)) × untold)
    ⊎ Refuses of_fault line IsBlamed IsAnswer input unwritten old new was is

-- what status 1 says of the error stream alone
abbrev pub Tells : {F : Type 0} → Type 0 → (Fault → F) → (F → List ℕ) → (F → List ℕ → Type 0) → Type 0 → Option (List ℕ)
    → Option (List ℕ) → Type 0
Tells {F} Denies of_fault line IsBlamed untold was is =
    (Denies × untold) ⊎ ((f : F) × CanTell of_fault IsBlamed f × AppendsPart was is (line f))
