-- All operations of a story, as those of one memory. To be believed: a law speaks of them.
use Rattle.std.specs.Prelude.{ℕ, ◌≡◌, List, [], ◌∷◌, ◌++◌, drop, length, map, take, Option, Some, MatchOption}
use Rattle.std.specs.List.{AllZip}
use Rattle.reg_base.specs.declared.memory.Answer.{Answer}
use Rattle.reg_base.specs.declared.memory.Op.{Op}
use Rattle.reg_base.specs.declared.memory.OpId.{OpId}
use Rattle.reg_base.specs.Memory.{answer_of, memory}
use Rattle.reg_checkers.specs.declared.entries.Entry.{Entry}
use Rattle.reg_checkers.specs.History.{IsAnswered, IsAt, IsCalled, IsFinished}
use Rattle.reg_history.specs.Reports.{Contents}
use Rattle.reg_node.specs.Openings.{opening_of}
use Rattle.reg_verify.specs.Stories.{EndsWith}

-- an operation, and how it was answered, where it was
pub record Act : Type 0 where
  pub op : Op
  pub answer : Option Answer

-- this is what the history has of the operation with this id
pub record IsAct (h : List Entry) (id : OpId) (act : Act) : Type 0 where
  pub called : (at : ℕ) × IsCalled h id at act.op
  pub answered : MatchOption act.answer (¬ IsFinished h id) (λ answer. (at : ℕ) × IsAnswered h id at answer)

-- These are the operations of all the orders, chapter by chapter, each without its opening, where the chapter before
-- ended with these values. A chapter that ended while it was opened has no others.
abbrev pub AreActs : List ℕ → List Contents → List Act → Type 0
AreActs values [] acts = acts ≡ []
AreActs values (r ∷ rs) acts =
    (own : List Act) × (rest : List Act) × (ends : List ℕ) × (acts ≡ own ++ rest)
    × AllZip (IsAct r.entries) (drop (length (opening_of values)) r.order) own × EndsWith r ends × AreActs ends rs rest

-- each answer is that of one memory, all zeros at first, after the operations before it
abbrev pub IsOneMemory : ℕ → List Act → Type 0
IsOneMemory registers acts =
    (k : ℕ) (act : Act) (answer : Answer) → IsAt acts k act → act.answer ≡ Some answer
    → answer ≡ answer_of act.op (memory registers (map (λ a. a.op) (take k acts)))
