-- The course of a chapter, as the caller sees it of a node that it holds. Promises cite it.
use Rattle.std.specs.Prelude.{ℕ, ◌≡◌, ◌==◌, ◌<◌, ◌≤◌, ◌⊎◌, Bool, true, not, is_some, List, length, Option, None, Some}
use Rattle.std.specs.Prelude.{option_map, if◌then◌else◌}
use Rattle.reg_base.specs.Memory.{register_of}
use Rattle.reg_base.specs.declared.limits.TheConstants.{MOST_REGISTERS}
use Rattle.reg_base.specs.declared.memory.Op.{Op}
use Rattle.reg_base.specs.declared.memory.Op.TheVariants.{Read, Write, Swap, CompareAndSwap}
use Rattle.reg_process.specs.declared.faults.ProcessFault.TheVariants as refusals
use Rattle.reg_node.specs.Courses.{CourseState, course_at_first, is_ending, is_far_ahead, is_opening, is_quiet}
use Rattle.reg_node.specs.Courses.{next_opening, own_calls, progress_of}
use Rattle.reg_node.specs.Openings.{opening_of}
use Rattle.reg_node.specs.declared.courses.Progress.{Progress}
use Rattle.reg_c.specs.declared.node_courses.CoursePart.{CoursePart}
use Rattle.reg_c.specs.declared.node_courses.CoursePart.TheVariants.{Ending, FarAhead, Opening, Quiet, OwnCalls, Next}
use Rattle.reg_c.specs.declared.node_courses.CoursePart.TheVariants.{NextRegister, NextValue}
use Rattle.reg_c.specs.declared.nodes.HeldNode.{HeldNode}
use Rattle.reg_c.specs.Events.{no_shape, no_world, refusal_code}
use Rattle.reg_c.specs.Nodes.{flag, logged_in}
use Rattle.reg_c.specs.Worlds.{seen}

-- the course of a chapter in this room, if a node was opened
abbrev pub RoomedBy : HeldNode → Option CourseState → HeldNode → ℕ → Type 0
RoomedBy old None new code = (code ≡ no_world) × (new ≡ old)
RoomedBy old (Some course) new code = (code ≡ 0) × (new ≡ record old { course = Some course })

-- the chapter of the node that is held has this room, and no course of before
abbrev pub NodeHasRoom : ℕ → ℕ → ℕ → HeldNode → HeldNode → ℕ → Type 0
NodeHasRoom operations entries ahead old new code =
    RoomedBy old (option_map (λ _. course_at_first operations entries ahead) (logged_in old.node)) new code

-- the chapter before this one ended with these values; or there is no course, there are more of them than there can be
-- registers, or there was no memory, and nothing has changed
abbrev pub FollowsIn : List ℕ → Option CourseState → Option CourseState → ℕ → Type 0
FollowsIn values None new code = (code ≡ no_world) × (new ≡ None)
FollowsIn values (Some old) new code =
    ((code ≡ 0) × (length values ≤ MOST_REGISTERS) × (new ≡ Some (record old { opening = opening_of values })))
    ⊎ (((code ≡ no_shape) × (MOST_REGISTERS < length values) × (new ≡ Some old))
    ⊎ ((code ≡ refusal_code refusals.OutOfMemory) × (length values ≤ MOST_REGISTERS) × (new ≡ Some old)))

-- the same of what is held; nothing else changes
abbrev pub NodeFollows : List ℕ → HeldNode → HeldNode → ℕ → Type 0
NodeFollows values old new code =
    FollowsIn values old.course new.course code × (new ≡ record old { course = new.course })

abbrev pub EndsBy : HeldNode → Option CourseState → HeldNode → ℕ → Type 0
EndsBy old None new code = (code ≡ no_world) × (new ≡ old)
EndsBy old (Some course) new code = (code ≡ 0) × (new ≡ record old { course = Some (record course { asked = true }) })

-- the end of the chapter is asked for, if it has a course
abbrev pub NodeEnds : HeldNode → HeldNode → ℕ → Type 0
NodeEnds old new code = EndsBy old old.course new code

-- What a caller looks at, by a number

-- the value that an operation writes
abbrev pub value_of : Op → ℕ
value_of (Read r) = 0
value_of (Write r v) = v
value_of (Swap r v) = v
value_of (CompareAndSwap r e v) = v

abbrev pub course_part : CoursePart → CourseState → Progress → ℕ
course_part Ending c p = flag (is_ending c p)
course_part FarAhead c p = flag (is_far_ahead c p)
course_part Opening c p = flag (is_opening c p)
course_part Quiet c p = flag (is_quiet c p)
course_part OwnCalls c p = own_calls c p
course_part Next c p = flag (is_some (next_opening c p))
course_part NextRegister c p = seen register_of (next_opening c p)
course_part NextValue c p = seen value_of (next_opening c p)

abbrev pub course_look_of : ℕ → Option CoursePart
course_look_of what =
    (if what == 0 then Some Ending else
    (if what == 1 then Some FarAhead else
    (if what == 2 then Some Opening else
    (if what == 3 then Some Quiet else
    (if what == 4 then Some OwnCalls else
    (if what == 5 then Some Next else
    (if what == 6 then Some NextRegister else
    (if what == 7 then Some NextValue else None))))))))

-- a part of a course, where there is a node that has one
abbrev pub course_seen : CoursePart → Option CourseState → Option Progress → ℕ
course_seen part None progress = 0
course_seen part (Some course) progress = seen (course_part part course) progress

-- how far the node that is held has come, where an operation runs or doesn't
abbrev pub progress_in : HeldNode → Bool → Option Progress
progress_in h is_running = option_map (λ l. progress_of l is_running) (logged_in h.node)

-- the number that a caller gets: 0 where it asks for nothing that there is
abbrev pub course_number : HeldNode → ℕ → ℕ → ℕ
course_number h what running =
    seen (λ part. course_seen part h.course (progress_in h (not (running == 0)))) (course_look_of what)
