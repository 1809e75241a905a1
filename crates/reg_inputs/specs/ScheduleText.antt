-- The text of a schedule.
use Rattle.std.specs.Prelude.{ℕ, List}
use Rattle.reg_text.specs.Lines.{text_of}
use Rattle.reg_inputs.specs.Schedules.{Plan, IsPlan, Spells, plan_lines}

-- the lines of a schedule, each with its line feed
abbrev pub schedule_text : Plan → List ℕ
schedule_text p = text_of (plan_lines p)

-- The text is that of a schedule: it is within the limits of one, and `parse_schedule` reads it from the text, and no
-- other.
pub record IsScheduleText (p : Plan) : Type 0 where
  pub good : IsPlan p
  pub spelled : Spells (schedule_text p) p
