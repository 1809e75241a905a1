-- Which operations stand after those that were answered before their call. To be believed: promises speak of it.
use Rattle.std.specs.Prelude.{ℕ, ◌≡◌, ◌≢◌, ◌<◌, List}
use Rattle.reg_base.specs.declared.memory.OpId.{OpId}
use Rattle.reg_base.specs.declared.memory.Op.{Op}
use Rattle.reg_base.specs.declared.memory.Answer.{Answer}
use Rattle.reg_base.specs.Memory.{IsUpdate}
use Rattle.reg_front.specs.declared.starts.Start.{Start}
use Rattle.reg_front.specs.declared.starts.Start.TheVariants.{CastAndAnswer as CastsAndAnswers}
use Rattle.reg_checkers.specs.declared.entries.Entry.{Entry}
use Rattle.reg_checkers.specs.History.{IsAt, IsCalled, IsAnswered}

-- a was answered at an event before that of the call of b
abbrev pub IsEarlier : List Entry → OpId → OpId → Type 0
IsEarlier h a b =
    (s : ℕ) × (t : ℕ) × (answer : Answer) × (op : Op) × IsAnswered h a s answer × IsCalled h b t op × (s < t)

-- the operation called under this id is one of which P holds
abbrev pub IsCallOf : (Op → Type 0) → List Entry → OpId → Type 0
IsCallOf P h id = (at : ℕ) × (op : Op) × IsCalled h id at op × P op

-- the front end never answers the operation before its cast is delivered
abbrev pub WaitsForDelivery : (Op → ℕ → Start) → Op → Type 0
WaitsForDelivery start op = (unsettled : ℕ) → start op unsettled ≢ CastsAndAnswers

-- the front end answers no operation before its cast is delivered
abbrev pub AnswersNothingFirst : (Op → ℕ → Start) → Type 0
AnswersNothingFirst start = (op : Op) → WaitsForDelivery start op

-- An operation that may change the memory stands after each that was answered before its call, except those that the
-- front end may answer before their delivery.
abbrev pub KeepsUpdates : (Op → ℕ → Start) → List Entry → List OpId → Type 0
KeepsUpdates start h ids =
    (i j : ℕ) (a b : OpId) → IsAt ids i a → IsAt ids j b → IsEarlier h a b → IsCallOf (WaitsForDelivery start) h a
    → IsCallOf IsUpdate h b → i < j

-- An operation that may change the memory stands after each that was answered before its call.
abbrev pub KeepsAllUpdates : List Entry → List OpId → Type 0
KeepsAllUpdates h ids =
    (i j : ℕ) (a b : OpId) → IsAt ids i a → IsAt ids j b → IsEarlier h a b → IsCallOf IsUpdate h b → i < j

-- An operation stands after each of its own process that was answered before its call.
abbrev pub KeepsOwnTime : List Entry → List OpId → Type 0
KeepsOwnTime h ids =
    (i j : ℕ) (a b : OpId) → IsAt ids i a → IsAt ids j b → IsEarlier h a b → a.process ≡ b.process → i < j

-- An operation stands after each that was answered before its call.
abbrev pub KeepsRealTime : List Entry → List OpId → Type 0
KeepsRealTime h ids = (i j : ℕ) (a b : OpId) → IsAt ids i a → IsAt ids j b → IsEarlier h a b → i < j
