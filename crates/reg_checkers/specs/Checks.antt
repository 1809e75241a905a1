-- What the checkers answer: yes exactly for a serial order or a point order, and else the first fault of a fixed row.
-- To be believed: promises speak of it.
use Rattle.std.specs.Prelude.{ℕ, ◌≡◌, ◌≢◌, ◌<◌, ◌⊎◌, suc, true, List, map, take, Result, MatchResult}
use Rattle.std.specs.List.{AllZip}
use Rattle.reg_base.specs.declared.memory.OpId.{OpId}
use Rattle.reg_base.specs.declared.memory.Op.{Op}
use Rattle.reg_base.specs.declared.memory.Answer.{Answer as Reply}
use Rattle.reg_checkers.specs.declared.entries.Entry.{Entry}
use Rattle.reg_checkers.specs.declared.entries.Point.{Point}
use Rattle.reg_checkers.specs.declared.faults.CheckFault.{CheckFault}
use Rattle.reg_checkers.specs.declared.faults.CheckFault.TheVariants.{Unknown, Twice, Missing, OwnOrder, Answer}
use Rattle.reg_checkers.specs.declared.faults.CheckFault.TheVariants.{Outside, Falling, OutOfMemory}
use Rattle.reg_base.specs.Memory.{updates, answer_of, memory}
use Rattle.reg_checkers.specs.History.{IsAt, IsCalled, IsAnswered, IsFinished}
use Rattle.reg_checkers.specs.Orders.{IsSerial, IsPointOrder}

-- some id is not that of a finished operation, nor that of a called one that may have changed the memory
abbrev pub HasUnknown : List Entry → List OpId → Type 0
HasUnknown h ids =
    (k : ℕ) × (id : OpId) × IsAt ids k id × (¬ IsFinished h id)
    × (¬ ((at : ℕ) × (op : Op) × IsCalled h id at op × (updates op ≡ true)))

-- some id stands twice
abbrev pub HasTwice : List OpId → Type 0
HasTwice ids = (i : ℕ) × (j : ℕ) × (id : OpId) × IsAt ids i id × IsAt ids j id × (i < j)

-- some finished operation stands nowhere
abbrev pub HasMissing : List Entry → List OpId → Type 0
HasMissing h ids = (id : OpId) × IsFinished h id × ((k : ℕ) → IsAt ids k id → ⊥)

-- some id stands after one of its process with a larger number
abbrev pub BreaksOwnOrder : List OpId → Type 0
BreaksOwnOrder ids =
    (i : ℕ) × (j : ℕ) × (a : OpId) × (b : OpId) × IsAt ids i a × IsAt ids j b × (i < j) × (a.process ≡ b.process)
    × (b.number < a.number)

-- these operations were called under these ids
abbrev pub AreCalled : List Entry → List OpId → List Op → Type 0
AreCalled h ids ops = AllZip (λ id op. (at : ℕ) × IsCalled h id at op) ids ops

-- the operation at this place is finished, with another answer than that of the memory after those before it
pub record IsWrong (registers : ℕ) (h : List Entry) (ids : List OpId) (k : ℕ) : Type 0 where
  pub ops : List Op
  pub called : AreCalled h ids ops
  pub id : OpId
  pub op : Op
  pub at : ℕ
  pub answer : Reply
  pub here : IsAt ids k id
  pub its_op : IsAt ops k op
  pub answered : IsAnswered h id at answer
  pub wrong : answer ≢ answer_of op (memory registers (take k ops))

-- the point at this place is before the call, or after the answer
abbrev pub IsOutside : List Entry → List Point → ℕ → Type 0
IsOutside h ps k =
    (p : Point) × IsAt ps k p
    × (((at : ℕ) × (op : Op) × IsCalled h p.id at op × (p.at < at))
    ⊎ ((at : ℕ) × (answer : Reply) × IsAnswered h p.id at answer × (at < p.at)))

-- the point at this place is below the one before it
abbrev pub IsFalling : List Point → ℕ → Type 0
IsFalling ps k = (j : ℕ) × (p : Point) × (q : Point) × (k ≡ suc j) × IsAt ps j p × IsAt ps k q × (q.at < p.at)

-- the first place of which P holds
abbrev pub IsFirst : (ℕ → Type 0) → ℕ → Type 0
IsFirst P k = P k × ((j : ℕ) → j < k → ¬ P j)

-- the first three kinds of fault are absent: the ids are a selection
pub record NoneOfThree (h : List Entry) (ids : List OpId) : Type 0 where
  pub unknown : ¬ HasUnknown h ids
  pub twice : ¬ HasTwice ids
  pub missing : ¬ HasMissing h ids

-- a fault of an order: it is there, and none that `CheckFault` has before it is. `OutOfMemory` says nothing
abbrev pub IsSerialFault : ℕ → List Entry → List OpId → CheckFault → Type 0
IsSerialFault registers h ids Unknown = HasUnknown h ids
IsSerialFault registers h ids Twice = (¬ HasUnknown h ids) × HasTwice ids
IsSerialFault registers h ids Missing = (¬ HasUnknown h ids) × (¬ HasTwice ids) × HasMissing h ids
IsSerialFault registers h ids OwnOrder = NoneOfThree h ids × BreaksOwnOrder ids
IsSerialFault registers h ids (Answer place) =
    NoneOfThree h ids × (¬ BreaksOwnOrder ids) × IsFirst (IsWrong registers h ids) place
IsSerialFault registers h ids (Outside place) = ⊥
IsSerialFault registers h ids (Falling place) = ⊥
IsSerialFault registers h ids OutOfMemory = Unit {0}

abbrev pub ids_of : List Point → List OpId
ids_of ps = map (λ p. p.id) ps

-- a fault of an order with points
abbrev pub IsPointFault : ℕ → List Entry → List Point → CheckFault → Type 0
IsPointFault registers h ps Unknown = HasUnknown h (ids_of ps)
IsPointFault registers h ps Twice = (¬ HasUnknown h (ids_of ps)) × HasTwice (ids_of ps)
IsPointFault registers h ps Missing = (¬ HasUnknown h (ids_of ps)) × (¬ HasTwice (ids_of ps)) × HasMissing h (ids_of ps)
IsPointFault registers h ps OwnOrder = ⊥
IsPointFault registers h ps (Answer place) = NoneOfThree h (ids_of ps) × IsFirst (IsWrong registers h (ids_of ps)) place
IsPointFault registers h ps (Outside place) =
    NoneOfThree h (ids_of ps) × ((k : ℕ) → ¬ IsWrong registers h (ids_of ps) k) × IsFirst (IsOutside h ps) place
IsPointFault registers h ps (Falling place) =
    NoneOfThree h (ids_of ps) × ((k : ℕ) → ¬ IsWrong registers h (ids_of ps) k) × ((k : ℕ) → ¬ IsOutside h ps k)
    × IsFirst (IsFalling ps) place
IsPointFault registers h ps OutOfMemory = Unit {0}

-- the contracts of check_serial and check_points
abbrev pub SerialVerdict : {A : Type 0} → ℕ → List Entry → List OpId → Result A CheckFault → Type 0
SerialVerdict registers h ids result =
    MatchResult result (λ _. IsSerial registers h ids) (λ fault. IsSerialFault registers h ids fault)

abbrev pub PointVerdict : {A : Type 0} → ℕ → List Entry → List Point → Result A CheckFault → Type 0
PointVerdict registers h ps result =
    MatchResult result (λ _. IsPointOrder registers h ps) (λ fault. IsPointFault registers h ps fault)
