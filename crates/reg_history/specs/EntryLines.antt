-- The lines of a history in a report, and what their fields may be. To be believed: promises speak of them.
use Rattle.std.specs.Prelude.{ℕ, ◌≡◌, true, ◌^◌, ◌<◌, ◌≤◌, ⊤, List, ◌++◌, codes}
use Rattle.std.specs.Fmt.{decimal}
use Rattle.reg_base.specs.declared.limits.TheConstants.{MOST_OPERATIONS, LAST_EVENT}
use Rattle.reg_base.specs.declared.memory.Answer.{Answer}
use Rattle.reg_base.specs.declared.memory.Answer.TheVariants.{Done, Value, Unequal}
use Rattle.reg_text.specs.Columns.{to_right, to_left}
use Rattle.reg_text.specs.Ops.{answer_text, op_text, OpFits}
use Rattle.reg_checkers.specs.declared.entries.Entry.{Entry}
use Rattle.reg_checkers.specs.declared.entries.Entry.TheVariants.{Called, Answered}
use Rattle.reg_history.specs.declared.versions.Version.{Version}
use Rattle.reg_history.specs.Versions.{most_processes, may_call, may_answer}

-- the event, the process and the number in their columns, and then the rest
abbrev pub columns_of : List ℕ → List ℕ → List ℕ → List ℕ → List ℕ
columns_of at process number rest =
    to_right 8 at ++ (codes "  p" ++ (to_left 3 process ++ (codes "  #" ++ (to_left 6 number ++ (codes "  " ++ rest)))))

abbrev pub columns_text : ℕ → ℕ → ℕ → List ℕ → List ℕ
columns_text at process number rest = columns_of (decimal at) (decimal process) (decimal number) rest

-- the line of an entry
abbrev pub entry_text : List (List ℕ) → Entry → List ℕ
entry_text names (Called at id op) = columns_text at id.process id.number (codes "call    " ++ op_text names op)
entry_text names (Answered at id answer) = columns_text at id.process id.number (codes "answer  " ++ answer_text answer)

-- the answer's value has 64 bits
abbrev pub AnswerFits : Answer → Type 0
AnswerFits Done = ⊤
AnswerFits (Value value) = value < 2 ^ 64
AnswerFits Unequal = ⊤

pub record ColumnsFit (version : Version) (at process number : ℕ) : Type 0 where
  pub at_fits : at ≤ LAST_EVENT
  pub process_fits : process < most_processes version
  pub number_fits : number < MOST_OPERATIONS

-- the parts of an entry are within the limits of a report of this version, and may stand in one
abbrev pub EntryFits : Version → List (List ℕ) → Entry → Type 0
EntryFits version names (Called at id op) =
    ColumnsFit version at id.process id.number × OpFits names op × (may_call version op ≡ true)
EntryFits version names (Answered at id answer) =
    ColumnsFit version at id.process id.number × AnswerFits answer × (may_answer version answer ≡ true)
