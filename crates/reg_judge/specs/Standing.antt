-- The history of calls and answers. To be believed: promises speak of it.
use Rattle.std.specs.Prelude.{ℕ, ◌≡◌, List, [], ◌∷◌, ◌++◌, get_or, slice_set, replicate, Option, Some, None, ⊤}
use Rattle.reg_base.specs.declared.memory.OpId.{OpId}
use Rattle.reg_base.specs.declared.memory.Op.{Op}
use Rattle.reg_base.specs.declared.memory.Op.TheVariants as ops
use Rattle.reg_checkers.specs.declared.entries.Entry.{Entry}
use Rattle.reg_checkers.specs.declared.entries.Entry.TheVariants.{Called, Answered}
use Rattle.reg_checkers.specs.History.{IsHistory, WasCalled}
use Rattle.reg_judge.specs.declared.rulings.rows.Act.{Act}
use Rattle.reg_judge.specs.declared.rulings.rows.Act.TheVariants.{Read, Write, Swap, CompareAndSwap}
use Rattle.reg_judge.specs.declared.rulings.rows.Step.{Step}
use Rattle.reg_judge.specs.declared.rulings.rows.Step.TheVariants.{Call, Answer}
use Rattle.reg_judge.specs.declared.rulings.rows.Row.{Row}
use Rattle.reg_judge.specs.declared.rulings.seats.LastCall.{LastCall}
use Rattle.reg_judge.specs.declared.rulings.seats.Naming.{Naming}
use Rattle.reg_judge.specs.declared.rulings.seats.Naming.TheVariants.{Any, Own}

-- the operation of a call at a key
abbrev pub act_op : Act → ℕ → ℕ → ℕ → Op
act_op Read key expected value = ops.Read key
act_op Write key expected value = ops.Write key value
act_op Swap key expected value = ops.Swap key value
act_op CompareAndSwap key expected value = ops.CompareAndSwap key expected value

-- the process under whose number a call may stand: any, or its own
abbrev pub MayName : Naming → ℕ → ℕ → Type 0
MayName Any process place = ⊤
MayName Own process place = place ≡ process

abbrev pub no_calls : ℕ → List (Option LastCall)
no_calls processes = replicate processes None

-- The entry of a row, and the last call of each process, before and after: a call stands under a new name, under which
-- none was called before, and an answer under that of the last call of its process, which is of the answer's key. Both
-- are of the row's event.
abbrev pub OneMore-by : Step → Naming → Row → List (Option LastCall) → List Entry → List (Option LastCall) → List Entry
    → Type 0
OneMore-by (Call act expected value) naming row held entries after more =
    (id : OpId) × MayName naming row.process id.process × (¬ WasCalled entries id)
    × (more ≡ entries ++ Called row.at id (act_op act row.key expected value) ∷ [])
    × (after ≡ slice_set held row.process (Some (record { id = id; key = row.key })))
OneMore-by (Answer answer) naming row held entries after more =
    (id : OpId) × (get_or held row.process None ≡ Some (record { id = id; key = row.key }))
    × (more ≡ entries ++ Answered row.at id answer ∷ []) × (after ≡ held)

abbrev pub OneMore : Naming → Row → List (Option LastCall) → List Entry → List (Option LastCall) → List Entry → Type 0
OneMore naming row held entries after more = OneMore-by row.step naming row held entries after more

-- The entries are those of the rows, in order, with the last calls.
pub data Stands (naming : Naming) (processes : ℕ) : List Row → List (Option LastCall) → List Entry → Type 0 where
  Nothing : Stands naming processes [] (no_calls processes) []
  More : {rows : List Row} {held after : List (Option LastCall)} {entries more : List Entry} (row : Row)
      → Stands naming processes rows held entries → OneMore naming row held entries after more
      → Stands naming processes (rows ++ row ∷ []) after more

-- The entries are those of the rows, and a history of so many registers, and of some number of processes, the places of
-- calls: each entry is in place after those before it.
pub record IsStood (naming : Naming) (processes registers : ℕ) (rows : List Row) (entries : List Entry) : Type 0 where
  pub held : List (Option LastCall)
  pub stands : Stands naming processes rows held entries
  pub places : ℕ
  pub history : IsHistory places registers entries
