-- The calls and answers that make a history. To be believed: promises speak of it.
use Rattle.std.specs.Prelude.{ℕ, ◌+◌, ◌&&◌, ◌||◌, nat_eq, Bool, true, false, not, List, [], ◌∷◌, Option, Some, None}
use Rattle.std.specs.Prelude.{option_map, if◌then◌else◌}
use Rattle.std.specs.List.{find}
use Rattle.reg_base.specs.declared.memory.Answer.{Answer as Reply}
use Rattle.reg_base.specs.declared.memory.Answer.TheVariants.{Done, Value}
use Rattle.reg_base.specs.declared.memory.Answer.TheVariants as replies
use Rattle.reg_observed.specs.declared.events.Event.{Event}
use Rattle.reg_observed.specs.declared.events.Moment.{Moment}
use Rattle.reg_observed.specs.declared.events.Moment.TheVariants.{Invoke, Ok, Fail, Unequal, Info}
use Rattle.reg_judge.specs.declared.rulings.rows.Act.{Act}
use Rattle.reg_judge.specs.declared.rulings.rows.Act.TheVariants.{Read, Write, Swap, CompareAndSwap}
use Rattle.reg_judge.specs.declared.rulings.rows.Step.{Step}
use Rattle.reg_judge.specs.declared.rulings.rows.Step.TheVariants.{Call, Answer}
use Rattle.reg_judge.specs.declared.rulings.rows.Row.{Row}
use Rattle.reg_observed.specs.Told.{is_compare_and_swap, is_invoke, is_read}

abbrev pub is_ok : Moment → Bool
is_ok Ok = true
is_ok _ = false

-- whether an answer that it was done tells of a value
abbrev pub asks : Act → Bool
asks Read = true
asks Swap = true
asks _ = false

-- The number of a value in registers: the first value is 0, and no two values have the same.
abbrev pub numbered : ℕ → ℕ → ℕ
numbered first value = if nat_eq value first then 0 else if nat_eq value 0 then first else value

-- what is told next of a process
abbrev pub next_of : ℕ → List Event → Option Moment
next_of process events = option_map (λ e. e.moment) (find (λ e. nat_eq e.process process) events)

-- Whether a call may have taken effect, where this is told next of its process. What was answered has, and so has a
-- compare-and-swap that found another value. What failed has not. Of any other call nothing is known: an update may
-- have, or do so later, and a read is left out.
abbrev pub counts : Event → Option Moment → Bool
counts call (Some Ok) = true
counts call (Some Fail) = false
counts call (Some Unequal) = true
counts call (Some Invoke) = not (is_read call.act)
counts call (Some Info) = not (is_read call.act)
counts call None = not (is_read call.act)

abbrev pub answer_to : Act → ℕ → Reply
answer_to Read value = Value value
answer_to Write value = Done
answer_to Swap value = Value value
answer_to CompareAndSwap value = Done

abbrev pub answer_in : ℕ → Event → Reply
answer_in first event = answer_to event.act (numbered first event.value)

abbrev pub step_at : Moment → ℕ → Event → Option Moment → Option Step
step_at Invoke first event next =
    if counts event next then Some (Call event.act (numbered first event.expected) (numbered first event.value)) else
    None
step_at Ok first event next = Some (Answer (answer_in first event))
step_at Fail first event next = None
step_at Unequal first event next = Some (Answer replies.Unequal)
step_at Info first event next = None

-- what an event means, where this is told next of its process
abbrev pub step_of : ℕ → Event → Option Moment → Option Step
step_of first event next = step_at event.moment first event next

abbrev pub row_of : ℕ → ℕ → Event → Option Moment → Option Row
row_of first at event next =
    option_map (λ step. record { at = at; process = event.process; key = event.key; step = step })
    (step_of first event next)

abbrev pub row_before : Option Row → List Row → List Row
row_before None rows = rows
row_before (Some row) rows = row ∷ rows

-- the calls and answers of these events, the first of which has this number
unfoldable pub rows_from : ℕ → ℕ → List Event → List Row
rows_from first at [] = []
rows_from first at (event ∷ events) =
    row_before (row_of first at event (next_of event.process events)) (rows_from first (at + 1) events)

-- the answer tells of this value
abbrev pub answers_this : ℕ → Event → Bool
answers_this value event = is_ok event.moment && (asks event.act && nat_eq event.value value)

-- the call of a compare-and-swap expects this value
abbrev pub expects_this : ℕ → Event → Bool
expects_this value event = is_invoke event.moment && (is_compare_and_swap event.act && nat_eq event.expected value)

-- the value is one that registers may have had: an answer tells of it, or a compare-and-swap expects it
abbrev pub speaks_of : ℕ → Event → Bool
speaks_of value event = answers_this value event || expects_this value event
