-- What an operation might have answered. To be believed: promises speak of it.
use Rattle.std.specs.Prelude.{ℕ, ◌↔◌, List, [], ◌∷◌, ◌++◌, take}
use Rattle.reg_base.specs.declared.memory.Answer.{Answer}
use Rattle.reg_base.specs.declared.memory.OpId.{OpId}
use Rattle.reg_checkers.specs.declared.entries.Entry.{Entry}
use Rattle.reg_checkers.specs.declared.entries.Entry.TheVariants.{Answered}
use Rattle.reg_checkers.specs.History.{IsAt}
use Rattle.reg_judge.specs.Judging.{HasPointOrder}

-- the entry at this place is an answer, and with the other answer there the entries up to it have a point order
abbrev pub IsPossible : ℕ → List Entry → ℕ → Answer → Type 0
IsPossible registers h place answer =
    (at : ℕ) × (id : OpId) × (given : Answer) × IsAt h place (Answered at id given)
    × HasPointOrder registers (take place h ++ Answered at id answer ∷ [])

-- the answer stands in the list
abbrev pub Has : List Answer → Answer → Type 0
Has answers answer = (k : ℕ) × IsAt answers k answer

-- these are the answers that are possible at the place
abbrev pub ArePossible : ℕ → List Entry → ℕ → List Answer → Type 0
ArePossible registers h place answers = (answer : Answer) → Has answers answer ↔ IsPossible registers h place answer
