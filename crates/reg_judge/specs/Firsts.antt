-- The first answer that none explains, by those of the keys. It carries a proof: of what stands here promises speak of
-- `IsAnswerAt` alone.
use Rattle.std.specs.Prelude.{ℕ, ◌≡◌, ◌<◌, ◌≤◌, ◌⊎◌, List, Option, Some, None}
use Rattle.reg_base.specs.declared.memory.Answer.{Answer}
use Rattle.reg_base.specs.declared.memory.OpId.{OpId}
use Rattle.reg_checkers.specs.declared.entries.Entry.{Entry}
use Rattle.reg_checkers.specs.declared.entries.Entry.TheVariants.{Answered}
use Rattle.reg_checkers.specs.History.{IsAt}
use Rattle.reg_judge.specs.declared.rulings.keys.Ruling.{Ruling}
use Rattle.reg_judge.specs.declared.rulings.keys.Ruling.TheVariants.{Linearizable, Not}
use Rattle.reg_judge.specs.declared.rulings.rows.Row.{Row}
use Rattle.reg_judge.specs.Reported.{AreRowsOf}
use Rattle.reg_judge.specs.Rulings.{AreRuled}

-- what is found out of each register of a history of so many processes and registers
abbrev pub AreRulingsOf : ℕ → ℕ → List Entry → List Ruling → Type 0
AreRulingsOf processes registers entries rulings =
    (rows : List Row) × AreRowsOf entries rows × AreRuled processes registers rows rulings

-- the earliest event of an answer that is found to be the first that none explains
pub record IsFirstNot (rulings : List Ruling) (at : ℕ) : Type 0 where
  pub key : ℕ
  pub is : IsAt rulings key (Not at)
  pub least : (other t : ℕ) → IsAt rulings other (Not t) → at ≤ t

-- an answer of this event stands at the place
abbrev pub IsAnswerAt : List Entry → ℕ → ℕ → Type 0
IsAnswerAt entries at place = (id : OpId) × (answer : Answer) × IsAt entries place (Answered at id answer)

-- the event that was found, and that of one key more
abbrev pub IsEarlier : Option ℕ → Ruling → Option ℕ → Type 0
IsEarlier found Linearizable next = next ≡ found
IsEarlier None (Not at) next = next ≡ Some at
IsEarlier (Some first) (Not at) next = ((next ≡ Some first) × (first ≤ at)) ⊎ ((next ≡ Some at) × (at ≤ first))

-- of the first i keys
abbrev pub IsFirstTo : ℕ → List Ruling → Option ℕ → Type 0
IsFirstTo i rulings None = (key t : ℕ) → key < i → ¬ IsAt rulings key (Not t)
IsFirstTo i rulings (Some at) =
    ((key : ℕ) × IsAt rulings key (Not at)) × ((key t : ℕ) → key < i → IsAt rulings key (Not t) → at ≤ t)
