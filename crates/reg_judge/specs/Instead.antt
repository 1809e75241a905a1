-- What might have been answered instead. To be believed: promises speak of it.
use Rattle.std.specs.Prelude.{ℕ, ⊤, List, length, ◌≡◌, Option, Some, None, Vec}
use Rattle.reg_base.specs.declared.memory.Answer.{Answer}
use Rattle.reg_checkers.specs.declared.entries.Entry.{Entry}
use Rattle.reg_checkers.specs.History.{IsAt}
use Rattle.reg_judge.specs.declared.rulings.keys.Ruling.{Ruling}
use Rattle.reg_judge.specs.declared.rulings.keys.Ruling.TheVariants.{Linearizable, Not}
use Rattle.reg_judge.specs.declared.rulings.rows.Row.{Row}
use Rattle.reg_judge.specs.declared.rulings.seats.Naming.TheVariants.{Any}
use Rattle.reg_judge.specs.Firsts.{IsAnswerAt}
use Rattle.reg_judge.specs.Keys.{rows_of_key}
use Rattle.reg_judge.specs.Possible.{ArePossible}
use Rattle.reg_judge.specs.Standing.{IsStood}

-- in a history of the rows of one key, under any names, these are the answers that are possible at this event
abbrev pub ArePossibleAt : ℕ → List Row → ℕ → List Answer → Type 0
ArePossibleAt processes rows at answers =
    (entries : List Entry) × IsStood Any processes 1 rows entries
    × ((place : ℕ) × IsAnswerAt entries at place × ArePossible 1 entries place answers)

-- what is told, if something is, of the rows of one key: the answers that are possible at the one that none explains
abbrev pub IsToldOf : {A : Type 0} → ℕ → List Row → Ruling → Option (Vec Answer A) → Type 0
IsToldOf processes rows Linearizable told = told ≡ None
IsToldOf processes rows (Not at) None = ⊤
IsToldOf processes rows (Not at) (Some answers) = ArePossibleAt processes rows at answers.items

-- of each key, by number
pub record AreToldOf {A : Type 0} (processes : ℕ) (rows : List Row) (rulings : List Ruling)
    (told : List (Option (Vec Answer A))) : Type 0 where
  pub all : length told ≡ length rulings
  pub each : (key : ℕ) (ruling : Ruling) (answers : Option (Vec Answer A)) → IsAt rulings key ruling
      → IsAt told key answers → IsToldOf processes (rows_of_key key rows) ruling answers
