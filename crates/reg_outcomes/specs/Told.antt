-- What the operations of a history told their callers. To be believed: promises speak of it.
use Rattle.std.specs.Prelude.{ℕ, ◌==◌, if◌then◌else◌, List, [], ◌∷◌, ◌++◌, Option, None, Some}
use Rattle.std.specs.List.{flat_map, range_with_len}
use Rattle.std.specs.Ordering.{nat_cmp, ordering_then}
use Rattle.std.specs.declared.cmp.Ordering.{Ordering}
use Rattle.reg_base.specs.declared.memory.Answer.{Answer}
use Rattle.reg_base.specs.declared.memory.Answer.TheVariants.{Done, Value, Unequal}
use Rattle.reg_base.specs.declared.memory.Op.{Op}
use Rattle.reg_base.specs.declared.memory.OpId.{OpId}
use Rattle.reg_base.specs.Memory.{tells}
use Rattle.reg_checkers.specs.declared.entries.Entry.{Entry}
use Rattle.reg_checkers.specs.declared.entries.Entry.TheVariants.{Called, Answered}
use Rattle.reg_outcomes.specs.declared.told.ToldAnswer.{ToldAnswer}

-- what an operation with this answer tells: its answer, where that tells of the memory, and nothing where it is a write
abbrev pub told_in : Op → OpId → Answer → List ToldAnswer
told_in op id answer =
    if tells op then record { process = id.process; number = id.number; answer = answer } ∷ [] else []

-- the operation that a process called last, after one entry more
abbrev pub called_last : ℕ → Option Op → Entry → Option Op
called_last p last (Called at id op) = if id.process == p then Some op else last
called_last p last (Answered at id answer) = last

-- what an entry tells this process: an answer of it is that of the operation that it called last
abbrev pub told_at : ℕ → Option Op → Entry → List ToldAnswer
told_at p last (Called at id op) = []
told_at p None (Answered at id answer) = []
told_at p (Some op) (Answered at id answer) = if id.process == p then told_in op id answer else []

-- what entries tell this process, in order, where before them it called this operation last
abbrev pub told_from : ℕ → Option Op → List Entry → List ToldAnswer
told_from p last [] = []
told_from p last (e ∷ es) = told_at p last e ++ told_from p (called_last p last e) es

-- what a history tells this process: the answers of its operations but writes, in order
abbrev pub told_of : ℕ → List Entry → List ToldAnswer
told_of p h = told_from p None h

-- the outcome: what a history tells each of n processes, by rising process
unfoldable pub outcome_of : ℕ → List Entry → List ToldAnswer
outcome_of n h = flat_map (λ p. told_of p h) (range_with_len 0 n)

-- `Done` is less than each value, and `Unequal` is greater
abbrev pub kind_of : Answer → ℕ
kind_of Done = 0
kind_of (Value value) = 1
kind_of Unequal = 2

-- the value of an answer, and 0 where it has none
abbrev pub value_of : Answer → ℕ
value_of Done = 0
value_of (Value value) = value
value_of Unequal = 0

-- by kind, and of two values the smaller first
abbrev pub answer_cmp : Answer → Answer → Ordering
answer_cmp a b = ordering_then (nat_cmp (kind_of a) (kind_of b)) (nat_cmp (value_of a) (value_of b))

-- by process, then by number, then by answer
abbrev pub told_cmp : ToldAnswer → ToldAnswer → Ordering
told_cmp a b =
    ordering_then (nat_cmp a.process b.process)
    (ordering_then (nat_cmp a.number b.number) (answer_cmp a.answer b.answer))
