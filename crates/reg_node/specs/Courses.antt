-- How a node goes through a chapter: what is written first, and when the chapter is to end. Promises cite it.
use Rattle.std.specs.Prelude.{ℕ, ◌-◌, ◌==◌, ◌&&◌, ◌||◌, Bool, false, not, nat_le, nat_lt, List, [], length, slice_get}
use Rattle.std.specs.Prelude.{Option, None, if◌then◌else◌}
use Rattle.reg_base.specs.declared.memory.Op.{Op}
use Rattle.reg_process.specs.Process.{unsettled}
use Rattle.reg_node.specs.declared.courses.Progress.{Progress}
use Rattle.reg_node.specs.Logged.{LoggedState}

-- how far a node has come in its chapter; whether an operation runs, or its reply isn't handed out, is its owner's to
-- know
abbrev pub progress_of : LoggedState → Bool → Progress
progress_of l is_running = record {
  process = l.process;
  calls = l.meeting.node.calls;
  logged = l.meeting.node.logged;
  delivered = l.meeting.node.process.state.delivered;
  unsettled = unsettled l.meeting.node.process.state;
  is_running = is_running;
}

-- The course of a chapter: the operations and the entries of a process at which it ends, and how many of its casts may
-- be on their way; what process 0 writes first; and whether the end was asked for.
pub record CourseState : Type 0 where
  pub operations : ℕ
  pub entries : ℕ
  pub ahead : ℕ
  pub opening : List Op
  pub asked : Bool

-- that of a chapter in such a room before which there was none
abbrev pub course_at_first : ℕ → ℕ → ℕ → CourseState
course_at_first operations entries ahead =
    record { operations = operations; entries = entries; ahead = ahead; opening = []; asked = false }

-- whether there is little room left
abbrev pub is_full : CourseState → Progress → Bool
is_full c p = nat_le c.operations p.calls || nat_le c.entries p.logged

-- whether the chapter is to end: nothing more is called then
abbrev pub is_ending : CourseState → Progress → Bool
is_ending c p = c.asked || is_full c p

-- whether so many own casts are on their way that no other one is made
abbrev pub is_far_ahead : CourseState → Progress → Bool
is_far_ahead c p = nat_le c.ahead p.unsettled

-- what the process writes next of the opening: only process 0 does, by its first calls
abbrev pub next_opening : CourseState → Progress → Option Op
next_opening c p = if p.process == 0 then slice_get c.opening p.calls else None

-- how many calls are those of its caller
abbrev pub own_calls : CourseState → Progress → ℕ
own_calls c p = if p.process == 0 then p.calls - length c.opening else p.calls

-- whether the opening, if there is one, isn't all delivered here, or one of its writes goes on: nothing else is called
-- then
abbrev pub is_opening : CourseState → Progress → Bool
is_opening c p =
    nat_lt 0 (length c.opening) && (nat_lt p.delivered (length c.opening) || (p.is_running && (own_calls c p == 0)))

-- whether it calls nothing more in this chapter, and no operation goes on
abbrev pub is_quiet : CourseState → Progress → Bool
is_quiet c p = is_ending c p && (not p.is_running && not (is_opening c p))
