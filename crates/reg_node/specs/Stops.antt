-- Readers that stop at a line. They carry a proof: no promise speaks of them.
use Rattle.std.specs.Prelude.{ℕ, ◌≡◌, ◌<◌, ◌≤◌, List, length, map, Option, Some}
use Rattle.reg_base.specs.declared.limits.TheConstants.{MOST_EVENTS}
use Rattle.reg_text.specs.Reading.{IsStopped}
use Rattle.reg_text.specs.Lines.{AllFit, Rest}
use Rattle.reg_text.specs.declared.faults.Why.{Why}
use Rattle.reg_text.specs.declared.faults.Why.TheVariants.{Form, Range}
use Rattle.reg_node.specs.declared.transcripts.recorded.Recorded.{Recorded}
use Rattle.reg_node.specs.RecordLines.{recorded_text, RecordedFits}
use Rattle.reg_node.specs.Refusals.{IsFirstWrong, IsStepLine}

-- the reader of a record stopped at the first line with which no record goes on
pub record StopsFirst (old new : Rest) (why : Why) : Type 0 where
  pub before : List (List ℕ)
  pub next : Option (List ℕ)
  pub stopped : IsStopped before next old new
  pub first : IsFirstWrong before next why

-- Of the lines, those before this one are of steps, and it is refused: it is no step's, or there may be no more steps.
pub record IsWrongStep (names : List (List ℕ)) (old new : Rest) (why : Why) : Type 0 where
  pub before : List Recorded
  pub line : List ℕ
  pub stopped : IsStopped (map (recorded_text names) before) (Some line) old new
  pub fit : AllFit (λ _ r. RecordedFits names r) before
  pub few : length before ≤ MOST_EVENTS
  pub none : length before < MOST_EVENTS → ¬ IsStepLine names line
  pub form : (¬ IsStepLine names line) → why ≡ Form
  pub further : IsStepLine names line → why ≡ Range
