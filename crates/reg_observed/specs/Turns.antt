-- Calls and answers in turn. To be believed: promises speak of it.
use Rattle.std.specs.Prelude.{ℕ, ◌&&◌, ◌==◌, Bool, true, false, List, [], ◌∷◌, replicate, get_or, slice_set, Option}
use Rattle.std.specs.Prelude.{Some, None, if◌then◌else◌}
use Rattle.reg_observed.specs.declared.events.Event.{Event}
use Rattle.reg_observed.specs.declared.events.Moment.{Moment}
use Rattle.reg_observed.specs.declared.events.Moment.TheVariants.{Invoke, Ok, Fail, Unequal, Info}
use Rattle.reg_judge.specs.declared.rulings.rows.Act.{Act}
use Rattle.reg_judge.specs.declared.rulings.rows.Act.TheVariants.{Read, Write, Swap, CompareAndSwap}
use Rattle.reg_observed.specs.declared.faults.Why.{Why}
use Rattle.reg_observed.specs.declared.faults.Why.TheVariants.{Idle, Busy, Other}

abbrev pub same_act : Act → Act → Bool
same_act Read Read = true
same_act Write Write = true
same_act Swap Swap = true
same_act CompareAndSwap CompareAndSwap = true
same_act _ _ = false

-- the event is of this call: of its kind, and at its key
abbrev pub is_of : Event → Event → Bool
is_of event call = same_act event.act call.act && event.key == call.key

abbrev pub unless_of : Event → Event → Option Why
unless_of event call = if is_of event call then None else Some Other

-- why an event may not come next, where its process has this call under way or none
abbrev pub wrong_at : Moment → Event → Option Event → Option Why
wrong_at Invoke event None = None
wrong_at Invoke event (Some call) = Some Busy
wrong_at Ok event None = Some Idle
wrong_at Ok event (Some call) = unless_of event call
wrong_at Fail event None = Some Idle
wrong_at Fail event (Some call) = unless_of event call
wrong_at Unequal event None = Some Idle
wrong_at Unequal event (Some call) = unless_of event call
wrong_at Info event None = Some Idle
wrong_at Info event (Some call) = unless_of event call

abbrev pub wrong_turn : Event → Option Event → Option Why
wrong_turn event running = wrong_at event.moment event running

abbrev pub running_by : Moment → Event → Option Event
running_by Invoke event = Some event
running_by Ok event = None
running_by Fail event = None
running_by Unequal event = None
running_by Info event = None

-- the call that its process has under way after the event
abbrev pub running_after : Event → Option Event
running_after event = running_by event.moment event

abbrev pub found_or : Event → Option Why → Option (ℕ × Why) → Option (ℕ × Why)
found_or event (Some why) others = Some (event.line, why)
found_or event None others = others

-- The first event that may not come where it stands, by its line, and why. Of each process the call is kept that it has
-- under way before these events.
unfoldable pub first_wrong : List (Option Event) → List Event → Option (ℕ × Why)
first_wrong running [] = None
first_wrong running (event ∷ events) =
    found_or event (wrong_turn event (get_or running event.process None))
    (first_wrong (slice_set running event.process (running_after event)) events)

abbrev pub none_running : ℕ → List (Option Event)
none_running processes = replicate processes None
