-- What an operation asks of the value of its register, and what it leaves there. They carry a proof: no promise speaks
-- of them.
use Rattle.std.specs.Prelude.{ℕ, ◌≡◌, ◌≢◌, ◌⊎◌, Option, Some, None, option_and_then}
use Rattle.std.specs.Option.{unwrap_or}
use Rattle.reg_base.specs.declared.memory.OpId.{OpId}
use Rattle.reg_base.specs.declared.memory.Op.{Op}
use Rattle.reg_base.specs.declared.memory.Op.TheVariants.{Read, Write, Swap, CompareAndSwap}
use Rattle.reg_base.specs.declared.memory.Answer.{Answer}
use Rattle.reg_base.specs.declared.memory.Answer.TheVariants.{Done, Value, Unequal}
use Rattle.reg_base.specs.Memory.{register_of}
use Rattle.reg_checkers.specs.declared.facts.Fact.{Fact}
use Rattle.reg_checkers.specs.declared.facts.Given.{Given}
use Rattle.reg_checkers.specs.Table.{Rows, cell}
use Rattle.reg_judge.specs.declared.acts.Act.{Act}
use Rattle.reg_judge.specs.declared.acts.Ask.{Ask}
use Rattle.reg_judge.specs.declared.acts.Ask.TheVariants.{Anything, Just, AllBut}

-- the value that an operation leaves, where its answer isn't that the value was unequal
abbrev pub made_of : Op → Option ℕ
made_of (Read r) = None
made_of (Write r v) = Some v
made_of (Swap r v) = Some v
made_of (CompareAndSwap r e v) = Some v

-- the value that it leaves where it has this answer
abbrev pub made : Op → Answer → Option ℕ
made (CompareAndSwap r e v) Unequal = None
made op answer = made_of op

-- what it asks where it has this answer: a value that it answers, or that it compares
abbrev pub asked : Op → Answer → Ask
asked op (Value u) = Just u
asked (CompareAndSwap r e v) Done = Just e
asked (CompareAndSwap r e v) Unequal = AllBut e
asked op answer = Anything

-- without an answer it asks and leaves what it does where it is done, and a read asks nothing and leaves nothing
abbrev pub unanswered : Op → Option ℕ → Option Act
unanswered op None = None
unanswered op (Some v) = Some (record { register = register_of op; asks = asked op Done; makes = Some v })

-- what an operation asks and leaves, by the answer that it has in the end
abbrev pub acting : Op → Option Given → Option Act
acting op None = unanswered op (made_of op)
acting op (Some given) =
    Some (record { register = register_of op; asks = asked op given.answer; makes = made op given.answer })

abbrev pub act_of : Fact → Option Act
act_of f = acting f.op f.answered

-- what the operation of this id asks and leaves, by a table of facts
abbrev pub act_in : {A : Type 0} → Rows A → OpId → Option Act
act_in rows id = option_and_then act_of (cell rows id)

-- so where it has no answer
abbrev pub alone : Op → Option Given → Option Act
alone op None = acting op None
alone op (Some given) = None

abbrev pub alone_in : {A : Type 0} → Rows A → OpId → Option Act
alone_in rows id = option_and_then (λ f. alone f.op f.answered) (cell rows id)

-- an operation that asks so may come at this value
abbrev pub Suits : Ask → ℕ → Type 0
Suits Anything v = Unit {0}
Suits (Just u) v = u ≡ v
Suits (AllBut u) v = u ≢ v

-- the operation may come where its register has this value
abbrev pub Fits : Act → ℕ → Type 0
Fits a v = Suits a.asks v

-- what it goes by: one value, any value, or nothing
abbrev pub goes_by : Ask → Option (Option ℕ)
goes_by Anything = None
goes_by (Just u) = Some (Some u)
goes_by (AllBut u) = Some None

-- whether it may come can hang on this value
abbrev pub Heeds : Ask → ℕ → Type 0
Heeds ask u = (goes_by ask ≡ Some (Some u)) ⊎ (goes_by ask ≡ Some None)

-- the value of the register after it
abbrev pub value_after : Act → ℕ → ℕ
value_after a v = unwrap_or a.makes v
