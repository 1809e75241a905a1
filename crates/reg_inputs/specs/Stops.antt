-- Readers that stop at a line. They carry a proof: no promise speaks of them.
use Rattle.std.specs.Prelude.{ℕ, ◌≡◌, ◌≢◌, ◌<◌, ◌≤◌, List, length, map, Option, Some}
use Rattle.reg_base.specs.declared.limits.TheConstants.{MOST_EVENTS}
use Rattle.reg_text.specs.Reading.{IsStopped}
use Rattle.reg_text.specs.Lines.{AllFit, Rest}
use Rattle.reg_text.specs.declared.faults.Why.{Why}
use Rattle.reg_process.specs.declared.events.Event.{Event}
use Rattle.reg_inputs.specs.LineForms.{IsLineWhy, IsFurtherWhy}
use Rattle.reg_inputs.specs.Refusals.{IsFirstWrong}
use Rattle.reg_inputs.specs.Schedules.{event_text, EventFits}

-- the reader of a schedule stopped at the first line with which no schedule goes on
pub record StopsFirst (old new : Rest) (why : Why) : Type 0 where
  pub before : List (List ℕ)
  pub next : Option (List ℕ)
  pub stopped : IsStopped before next old new
  pub first : IsFirstWrong before next why

-- Of the lines, those before this one are of events, and it is refused: it is no event's, or there may be no more
-- events.
pub record IsWrongEvent (names : List (List ℕ)) (old new : Rest) (why : Why) : Type 0 where
  pub before : List Event
  pub line : List ℕ
  pub stopped : IsStopped (map (event_text names) before) (Some line) old new
  pub fit : AllFit (λ _ e. EventFits names e) before
  pub few : length before ≤ MOST_EVENTS
  pub none : length before < MOST_EVENTS → (e : Event) → EventFits names e → line ≢ event_text names e
  pub why_none : length before < MOST_EVENTS → IsLineWhy names line why
  pub why_further : length before ≡ MOST_EVENTS → IsFurtherWhy line why
