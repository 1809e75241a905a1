-- The facts of operations, by which the passes of a check speak. They carry proofs, of crates above too: no other
-- promise speaks of them.
use Rattle.std.specs.Prelude.{ℕ, ◌≡◌, ◌≢◌, ◌<◌, ◌⊎◌, List, map, take, Some, MatchOption}
use Rattle.std.specs.List.{AllZip}
use Rattle.reg_base.specs.declared.memory.OpId.{OpId}
use Rattle.reg_checkers.specs.declared.entries.Entry.{Entry}
use Rattle.reg_checkers.specs.declared.entries.Point.{Point}
use Rattle.reg_base.specs.Memory.{Memory, answer_of, memory}
use Rattle.reg_checkers.specs.History.{IsAt, IsCalled, IsAnswered, IsFinished}
use Rattle.reg_checkers.specs.declared.facts.Fact.{Fact}
use Rattle.reg_checkers.specs.declared.facts.Given.{Given}

-- what the history says of this operation
pub record IsFactOf (h : List Entry) (id : OpId) (f : Fact) : Type 0 where
  pub called : IsCalled h id f.called f.op
  pub answered : MatchOption f.answered (¬ IsFinished h id) (λ r. IsAnswered h id r.at r.answer)

abbrev pub AreFacts : List Entry → List OpId → List Fact → Type 0
AreFacts h ids facts = AllZip (IsFactOf h) ids facts

-- the fact has another answer than that of this memory
abbrev pub IsWrongOn : Memory → Fact → Type 0
IsWrongOn m f = (given : Given) × (f.answered ≡ Some given) × (given.answer ≢ answer_of f.op m)

-- the fact at this place has another answer than that of the memory after those before it
abbrev pub IsWrongFact : ℕ → List Fact → ℕ → Type 0
IsWrongFact registers facts k =
    (f : Fact) × IsAt facts k f × IsWrongOn (memory registers (map (λ f. f.op) (take k facts))) f

-- the point is before the call, or after the answer
abbrev pub IsBeside : Point → Fact → Type 0
IsBeside p f = (p.at < f.called) ⊎ ((given : Given) × (f.answered ≡ Some given) × (given.at < p.at))

abbrev pub IsOutsideFact : List Point → List Fact → ℕ → Type 0
IsOutsideFact ps facts k = (p : Point) × (f : Fact) × IsAt ps k p × IsAt facts k f × IsBeside p f
