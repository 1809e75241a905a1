-- Answers among which the possible ones are. They carry a proof: no promise speaks of them.
use Rattle.std.specs.Prelude.{ℕ, ◌≡◌, ◌<◌, ◌↔◌, List, Option, Some, None, length}
use Rattle.std.specs.Option.{unwrap_or}
use Rattle.reg_base.specs.declared.memory.Answer.{Answer}
use Rattle.reg_base.specs.declared.memory.Answer.TheVariants.{Done, Value, Unequal}
use Rattle.reg_base.specs.declared.memory.OpId.{OpId}
use Rattle.reg_base.specs.declared.memory.Op.{Op}
use Rattle.reg_checkers.specs.declared.entries.Entry.{Entry}
use Rattle.reg_checkers.specs.declared.entries.Entry.TheVariants.{Called, Answered}
use Rattle.reg_checkers.specs.declared.facts.Fact.{Fact}
use Rattle.reg_checkers.specs.declared.facts.Given.{Given}
use Rattle.reg_checkers.specs.History.{IsAnswered, IsAt, IsCalled}
use Rattle.reg_checkers.specs.Table.{Rows, cell}
use Rattle.reg_judge.specs.Acts.{made, made_of}
use Rattle.reg_judge.specs.Possible.{Has, IsPossible}

-- among the answers are all that are possible at the place
abbrev pub AreCandidates : ℕ → List Entry → ℕ → List Answer → Type 0
AreCandidates registers h place answers = (answer : Answer) → IsPossible registers h place answer → Has answers answer

-- those of the candidates that are possible at the place
abbrev pub ArePossibleOf : ℕ → List Entry → ℕ → List Answer → List Answer → Type 0
ArePossibleOf registers h place candidates answers =
    (answer : Answer) → Has answers answer ↔ (Has candidates answer × IsPossible registers h place answer)

-- those of the first n candidates
abbrev pub ArePossibleTo : ℕ → ℕ → List Entry → ℕ → List Answer → List Answer → Type 0
ArePossibleTo n registers h place candidates answers =
    (answer : Answer)
    → Has answers answer ↔ (((k : ℕ) × (k < n) × IsAt candidates k answer) × IsPossible registers h place answer)

-- by the table, the operation was answered before the event
abbrev pub IsOver : {A : Type 0} → Rows A → OpId → ℕ → Type 0
IsOver rows id event = (f : Fact) × (g : Given) × (cell rows id ≡ Some f) × (f.answered ≡ Some g) × (g.at < event)

-- by the table, the operation left a value, was answered before the event, and was called then
abbrev pub IsChange : {A : Type 0} → Rows A → OpId → ℕ → ℕ → Type 0
IsChange rows id event called =
    (f : Fact) × (g : Given) × (v : ℕ) × (cell rows id ≡ Some f) × (f.answered ≡ Some g) × (g.at < event)
    × (made f.op g.answer ≡ Some v) × (called ≡ f.called)

-- an operation that was called then left a value, and was answered before the event
abbrev pub IsSince : List Entry → ℕ → Option ℕ → Type 0
IsSince h event None = Unit {0}
IsSince h event (Some called) =
    (u : OpId) × (op : Op) × (at : ℕ) × (answer : Answer) × (v : ℕ) × IsCalled h u called op × IsAnswered h u at answer
    × (at < event) × (made op answer ≡ Some v)

-- the value that the operation leaves is told, unless by the table it was over before the event
abbrev pub Leaves : {A : Type 0} → Rows A → ℕ → Entry → Option ℕ → Type 0
Leaves rows event (Called at id op) told = (v : ℕ) → made_of op ≡ Some v → ¬ IsOver rows id event → told ≡ Some v
Leaves rows event (Answered at id answer) told = Unit {0}

-- the value stands in the list
abbrev pub HasValue : List ℕ → ℕ → Type 0
HasValue values v = (k : ℕ) × IsAt values k v

-- all values stay, and this one is there, if there is one
pub record HasMore (old : List ℕ) (value : Option ℕ) (new : List ℕ) : Type 0 where
  pub kept : (v : ℕ) → HasValue old v → HasValue new v
  pub has : (v : ℕ) → value ≡ Some v → HasValue new v

-- The values that operations of the first n entries left, but for those that were over before a change was called; and
-- the first value, if there is no change.
pub record AreLeftTo {A : Type 0} (n : ℕ) (rows : Rows A) (h : List Entry) (since : Option ℕ)
    (values : List ℕ) : Type 0 where
  pub first : since ≡ None → HasValue values 0
  pub left : (k at : ℕ) (id : OpId) (op : Op) (v : ℕ) → k < n → IsAt h k (Called at id op) → made_of op ≡ Some v
      → ¬ IsOver rows id (unwrap_or since 0) → HasValue values v

-- those of all entries
abbrev pub AreLeft : {A : Type 0} → Rows A → List Entry → Option ℕ → List ℕ → Type 0
AreLeft rows h since values = AreLeftTo (length h) rows h since values

-- the answers that tell of no value, and the first n of these values as answers
pub record AreAnswersTo (n : ℕ) (values : List ℕ) (answers : List Answer) : Type 0 where
  pub done : Has answers Done
  pub unequal : Has answers Unequal
  pub value : (k v : ℕ) → k < n → IsAt values k v → Has answers (Value v)

abbrev pub AreAnswersOf : List ℕ → List Answer → Type 0
AreAnswersOf values answers = AreAnswersTo (length values) values answers
