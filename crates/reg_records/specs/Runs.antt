-- Short runs, each in one register, by their events and their histories. Those of examples/ of the same names.
use Rattle.std.specs.Prelude.{List, [], ◌∷◌}
use Rattle.reg_base.specs.declared.memory.Op.TheVariants.{Read, Write, Swap, CompareAndSwap}
use Rattle.reg_base.specs.declared.memory.Answer.TheVariants.{Done, Value}
use Rattle.reg_checkers.specs.declared.entries.Entry.{Entry}
use Rattle.reg_checkers.specs.declared.entries.Entry.TheVariants.{Called, Answered}
use Rattle.reg_process.specs.declared.events.Event.{Event}
use Rattle.reg_process.specs.declared.events.Event.TheVariants.{Call, Take}
use Rattle.reg_world.specs.World.{op_id}

-- stale-read: process 1 reads what was before the write of process 0
abbrev pub stale_read : List Event
stale_read = Call 0 (Write 0 5) ∷ Take 0 1 0 ∷ Take 0 2 0 ∷ Take 1 0 1 ∷ Take 2 0 1 ∷ Call 1 (Read 0) ∷ []

abbrev pub stale_read_history : List Entry
stale_read_history =
    Called 0 (op_id 0 0) (Write 0 5) ∷ Answered 4 (op_id 0 0) Done ∷ Called 5 (op_id 1 0) (Read 0)
    ∷ Answered 5 (op_id 1 0) (Value 0) ∷ []

-- stale-after-swap: process 1 reads what was before the swap of process 0
abbrev pub stale_after_swap : List Event
stale_after_swap = Call 0 (Swap 0 5) ∷ Take 0 1 0 ∷ Take 0 2 0 ∷ Take 1 0 1 ∷ Take 2 0 1 ∷ Call 1 (Read 0) ∷ []

abbrev pub stale_after_swap_history : List Entry
stale_after_swap_history =
    Called 0 (op_id 0 0) (Swap 0 5) ∷ Answered 4 (op_id 0 0) (Value 0) ∷ Called 5 (op_id 1 0) (Read 0)
    ∷ Answered 5 (op_id 1 0) (Value 0) ∷ []

-- stale-after-cas: process 1 reads what was before the compare-and-swap of process 0, which found it and was answered
abbrev pub stale_after_cas : List Event
stale_after_cas =
    Call 0 (CompareAndSwap 0 0 5) ∷ Take 0 1 0 ∷ Take 0 2 0 ∷ Take 1 0 1 ∷ Take 2 0 1 ∷ Call 1 (Read 0) ∷ []

abbrev pub stale_after_cas_history : List Entry
stale_after_cas_history =
    Called 0 (op_id 0 0) (CompareAndSwap 0 0 5) ∷ Answered 4 (op_id 0 0) Done ∷ Called 5 (op_id 1 0) (Read 0)
    ∷ Answered 5 (op_id 1 0) (Value 0) ∷ []

-- new-then-old: process 1 reads the new value, and then process 2 the old one, while a write is on its way; or after it
-- was answered at once
abbrev pub new_then_old : List Event
new_then_old = Call 0 (Write 0 5) ∷ Take 0 2 0 ∷ Take 2 1 0 ∷ Take 0 1 0 ∷ Call 1 (Read 0) ∷ Call 2 (Read 0) ∷ []

abbrev pub new_then_old_history : List Entry
new_then_old_history =
    Called 0 (op_id 0 0) (Write 0 5) ∷ Called 4 (op_id 1 0) (Read 0) ∷ Answered 4 (op_id 1 0) (Value 5)
    ∷ Called 5 (op_id 2 0) (Read 0) ∷ Answered 5 (op_id 2 0) (Value 0) ∷ []

abbrev pub new_then_old_at_once_history : List Entry
new_then_old_at_once_history =
    Called 0 (op_id 0 0) (Write 0 5) ∷ Answered 0 (op_id 0 0) Done ∷ Called 4 (op_id 1 0) (Read 0)
    ∷ Answered 4 (op_id 1 0) (Value 5) ∷ Called 5 (op_id 2 0) (Read 0) ∷ Answered 5 (op_id 2 0) (Value 0) ∷ []

-- unseen-write: a write is answered at once, and another process reads what was before it
abbrev pub unseen_write : List Event
unseen_write = Call 0 (Write 0 5) ∷ Call 1 (Read 0) ∷ []

abbrev pub unseen_write_history : List Entry
unseen_write_history =
    Called 0 (op_id 0 0) (Write 0 5) ∷ Answered 0 (op_id 0 0) Done ∷ Called 1 (op_id 1 0) (Read 0)
    ∷ Answered 1 (op_id 1 0) (Value 0) ∷ []

-- overtaking-swap: a later swap has the lesser stamp, and takes what was before the write
abbrev pub overtaking_swap : List Event
overtaking_swap = Call 1 (Write 0 5) ∷ Call 0 (Swap 0 7) ∷ Take 1 0 0 ∷ []

abbrev pub overtaking_swap_history : List Entry
overtaking_swap_history =
    Called 0 (op_id 1 0) (Write 0 5) ∷ Answered 0 (op_id 1 0) Done ∷ Called 1 (op_id 0 0) (Swap 0 7)
    ∷ Answered 2 (op_id 0 0) (Value 0) ∷ []

-- overtaking-cas: a later compare-and-swap has the lesser stamp, and finds what was before the write
abbrev pub overtaking_cas : List Event
overtaking_cas = Call 1 (Write 0 5) ∷ Call 0 (CompareAndSwap 0 0 7) ∷ Take 1 0 0 ∷ []

abbrev pub overtaking_cas_history : List Entry
overtaking_cas_history =
    Called 0 (op_id 1 0) (Write 0 5) ∷ Answered 0 (op_id 1 0) Done ∷ Called 1 (op_id 0 0) (CompareAndSwap 0 0 7)
    ∷ Answered 2 (op_id 0 0) Done ∷ []

-- overtaking-write: a later write has the lesser stamp, and its own process reads the value of the earlier one
abbrev pub overtaking_write : List Event
overtaking_write = Call 1 (Write 0 5) ∷ Call 0 (Write 0 7) ∷ Take 1 0 0 ∷ Call 0 (Read 0) ∷ []

abbrev pub overtaking_write_history : List Entry
overtaking_write_history =
    Called 0 (op_id 1 0) (Write 0 5) ∷ Answered 0 (op_id 1 0) Done ∷ Called 1 (op_id 0 0) (Write 0 7)
    ∷ Answered 1 (op_id 0 0) Done ∷ Called 3 (op_id 0 1) (Read 0) ∷ Answered 3 (op_id 0 1) (Value 5) ∷ []
