-- What the commands tell of a fault.
use Rattle.std.specs.Prelude.{ℕ, ◌≡◌, ◌⊎◌, List, [], ◌∷◌, ◌++◌, codes}
use Rattle.reg_commands.specs.FaultLines.{fault_line}
use Rattle.reg_commands.specs.declared.faults.Fault.{Fault}
use Rattle.reg_commands.specs.declared.faults.Fault.TheVariants.{OutOfMemory}
use Rattle.reg_outcomes.specs.declared.faults.InterleavingFault.{InterleavingFault}
use Rattle.reg_outcomes.specs.declared.faults.InterleavingFault.TheVariants.{TooManyStages as StagesFault}
use Rattle.reg_outcomes.specs.declared.faults.InterleavingFault.TheVariants.{OutOfMemory as MemoryFault}
use Rattle.reg_outcomes.specs.declared.turning.TurnsFault.{TurnsFault}
use Rattle.reg_outcomes.specs.declared.turning.TurnsFault.TheVariants.{TooManyEvents as NoRoom, OutOfMemory as NoMemory}
use Rattle.reg_show.specs.declared.faults.ShowFault.{ShowFault}
use Rattle.reg_show.specs.declared.faults.ShowFault.TheVariants.{Command, NoSuchOutcome, TooManyEvents, TooManyStages}
use Rattle.reg_show.specs.declared.faults.ShowFault.TheVariants.{TooManyToDraw, TooManyToRest, TooManyToShorten}

-- the line of a fault on the error stream, with its line feed
abbrev pub show_line : ShowFault → List ℕ
show_line (Command fault) = fault_line fault
show_line TooManyToDraw =
    codes "too many events to draw: a page has room for 2000, and trace for all; schedule --short and --fair make fewer"
    ++ 10 ∷ []
show_line TooManyToRest = codes "too many events to rest" ++ 10 ∷ []
show_line TooManyToShorten = codes "too many events to shorten" ++ 10 ∷ []
show_line TooManyStages = codes "too many stages" ++ 10 ∷ []
show_line NoSuchOutcome = codes "no such outcome" ++ 10 ∷ []
show_line TooManyEvents = codes "too many events" ++ 10 ∷ []

-- The fault is one of a command, or one by which something is said of some text, also where the input isn't known. It
-- carries a proof: no promise speaks of it.
abbrev pub CanTell : (ShowFault → List ℕ → Type 0) → ShowFault → Type 0
CanTell IsBlamed fault = ((told : Fault) × (fault ≡ Command told)) ⊎ ((text : List ℕ) × IsBlamed fault text)

-- the fault of a search among stages, as a command tells it
abbrev pub fault_of_search : InterleavingFault → ShowFault
fault_of_search StagesFault = TooManyStages
fault_of_search MemoryFault = Command OutOfMemory

-- the fault of a run with an outcome, as a command tells it
abbrev pub fault_of_turns : TurnsFault → ShowFault
fault_of_turns NoRoom = TooManyEvents
fault_of_turns NoMemory = Command OutOfMemory
