-- Worked schedules, computed from the definitions: first those of examples/, one after another.
use Rattle.std.proofs.Common.{◌≡◌, ℕ, List, [], ◌∷◌, ◌++◌, length, map, refl}
use Rattle.reg_base.specs.declared.memory.Op.TheVariants.{Read, Write, Swap, CompareAndSwap}
use Rattle.reg_base.specs.declared.memory.Answer.TheVariants.{Done, Value, Unequal}
use Rattle.reg_frames.specs.declared.bodies.Body.TheVariants.{Ack}
use Rattle.reg_frames.specs.declared.bodies.Frame.TheVariants.{Numbered, Got}
use Rattle.reg_process.specs.declared.steps.Reply.{Reply}
use Rattle.reg_front.specs.Table.{linear, local_read, local_write}
use Rattle.reg_process.specs.declared.events.Event.TheVariants.{Call, Take, Tick}
use Rattle.reg_process.specs.Process.{cast_at}
use Rattle.reg_world.specs.Nodes.{Said}
use Rattle.reg_world.specs.declared.order.First.{First}
use Rattle.reg_checkers.specs.declared.entries.Entry.TheVariants.{Called, Answered}
use Rattle.reg_world.specs.World.{World, whole, delivered_of, op_id}

abbrev told : World → ℕ → List Reply
told w p = map (λ (s : Said). s.reply) (w.nodes p).replies

abbrev firsts_at : World → List ℕ
firsts_at w = map (λ (f : First). f.at) w.order

-- examples/one-process.sched: one process writes and reads back
one_process : World
one_process = whole linear 1 1 (Call 0 (Write 0 5) ∷ Call 0 (Read 0) ∷ [])

one_process_told : told one_process 0
    ≡ record { answer = Done; place = 0 } ∷ record { answer = Value 5; place = 1 } ∷ []
unfolding one_process
one_process_told = refl

one_process_firsts : firsts_at one_process ≡ 0 ∷ 1 ∷ []
unfolding one_process
one_process_firsts = refl

one_process_history : one_process.history
    ≡ Called 0 (op_id 0 0) (Write 0 5) ∷ Answered 0 (op_id 0 0) Done ∷ Called 1 (op_id 0 1) (Read 0)
    ∷ Answered 1 (op_id 0 1) (Value 5) ∷ []
unfolding one_process
one_process_history = refl

one_process_ids : map (λ (f : First). f.id) one_process.order ≡ op_id 0 0 ∷ op_id 0 1 ∷ []
unfolding one_process
one_process_ids = refl

-- examples/acknowledged-write.sched: a write is done once its cast is acknowledged
acknowledged_write : World
acknowledged_write = whole linear 2 1 (Call 0 (Write 0 5) ∷ Take 0 1 0 ∷ Take 1 0 1 ∷ [])

acknowledged_write_clock1 : (acknowledged_write.nodes 1).state.clock ≡ 2
unfolding acknowledged_write
acknowledged_write_clock1 = refl

acknowledged_write_clock0 : (acknowledged_write.nodes 0).state.clock ≡ 3
unfolding acknowledged_write
acknowledged_write_clock0 = refl

acknowledged_write_wire : (acknowledged_write.nodes 1).wire 0 ≡ Got 1 ∷ Numbered 0 (Ack 2) ∷ []
unfolding acknowledged_write
acknowledged_write_wire = refl

acknowledged_write_told : told acknowledged_write 0 ≡ record { answer = Done; place = 0 } ∷ []
unfolding acknowledged_write
acknowledged_write_told = refl

acknowledged_write_firsts : firsts_at acknowledged_write ≡ 1 ∷ []
unfolding acknowledged_write
acknowledged_write_firsts = refl

-- examples/two-writers.sched: two writes of one time go by process
two_writers : World
two_writers = whole linear 2 1 (Call 0 (Write 0 1) ∷ Call 1 (Write 0 2) ∷ Take 0 1 0 ∷ Take 1 0 0 ∷ Take 0 1 2 ∷ [])

two_writers_order : map delivered_of two_writers.order ≡ cast_at 1 0 (Write 0 1) ∷ cast_at 1 1 (Write 0 2) ∷ []
unfolding two_writers
two_writers_order = refl

two_writers_firsts : firsts_at two_writers ≡ 2 ∷ 3 ∷ []
unfolding two_writers
two_writers_firsts = refl

two_writers_copy0 : (two_writers.nodes 0).state.copy ≡ 2 ∷ []
unfolding two_writers
two_writers_copy0 = refl

two_writers_copy1 : (two_writers.nodes 1).state.copy ≡ 2 ∷ []
unfolding two_writers
two_writers_copy1 = refl

two_writers_told0 : told two_writers 0 ≡ record { answer = Done; place = 0 } ∷ []
unfolding two_writers
two_writers_told0 = refl

two_writers_told1 : told two_writers 1 ≡ record { answer = Done; place = 1 } ∷ []
unfolding two_writers
two_writers_told1 = refl

-- examples/stale-read.sched: a local read does not see a write that is done
stale_read : World
stale_read =
    whole local_read 3 1 (Call 0 (Write 0 5) ∷ Take 0 1 0 ∷ Take 0 2 0 ∷ Take 1 0 1 ∷ Take 2 0 1 ∷ Call 1 (Read 0) ∷ [])

stale_read_told : told stale_read 0 ++ told stale_read 1
    ≡ record { answer = Done; place = 0 } ∷ record { answer = Value 0; place = 0 } ∷ []
unfolding stale_read
stale_read_told = refl

stale_read_history : stale_read.history
    ≡ Called 0 (op_id 0 0) (Write 0 5) ∷ Answered 4 (op_id 0 0) Done ∷ Called 5 (op_id 1 0) (Read 0)
    ∷ Answered 5 (op_id 1 0) (Value 0) ∷ []
unfolding stale_read
stale_read_history = refl

stale_read_reads : stale_read.reads ≡ record { id = op_id 1 0; place = 0 } ∷ []
unfolding stale_read
stale_read_reads = refl

-- examples/waiting-read.sched: a read waits for the own write
waiting_read : World
waiting_read = whole local_write 2 1 (Call 0 (Write 0 5) ∷ Call 0 (Read 0) ∷ Take 0 1 0 ∷ Take 1 0 1 ∷ [])

waiting_read_told : told waiting_read 0
    ≡ record { answer = Done; place = 0 } ∷ record { answer = Value 5; place = 1 } ∷ []
unfolding waiting_read
waiting_read_told = refl

waiting_read_history : waiting_read.history
    ≡ Called 0 (op_id 0 0) (Write 0 5) ∷ Answered 0 (op_id 0 0) Done ∷ Called 1 (op_id 0 1) (Read 0)
    ∷ Answered 3 (op_id 0 1) (Value 5) ∷ []
unfolding waiting_read
waiting_read_history = refl

waiting_read_reads : waiting_read.reads ≡ record { id = op_id 0 1; place = 1 } ∷ []
unfolding waiting_read
waiting_read_reads = refl

-- examples/repeated-frame.sched: a frame taken twice is accepted once
repeated_frame : World
repeated_frame = whole linear 2 1 (Call 0 (Write 0 5) ∷ Take 0 1 0 ∷ Take 0 1 0 ∷ Take 1 0 1 ∷ [])

repeated_frame_wire : (repeated_frame.nodes 1).wire 0 ≡ Got 1 ∷ Numbered 0 (Ack 2) ∷ Got 1 ∷ []
unfolding repeated_frame
repeated_frame_wire = refl

repeated_frame_told : told repeated_frame 0 ≡ record { answer = Done; place = 0 } ∷ []
unfolding repeated_frame
repeated_frame_told = refl

-- examples/resent-frame.sched: a tick puts a frame again
resent_frame : World
resent_frame = whole linear 2 1 (Call 0 (Write 0 5) ∷ Tick 0 ∷ Take 0 1 1 ∷ Take 1 0 1 ∷ [])

resent_frame_firsts : firsts_at resent_frame ≡ 2 ∷ []
unfolding resent_frame
resent_frame_firsts = refl

-- examples/held-read.sched: a held read is answered before a later cast of the same event
held_read : World
held_read = whole local_write 2 1 (Call 0 (Write 0 1) ∷ Call 1 (Write 0 2) ∷ Call 0 (Read 0) ∷ Take 1 0 0 ∷ [])

held_read_told : told held_read 0 ≡ record { answer = Done; place = 0 } ∷ record { answer = Value 1; place = 1 } ∷ []
unfolding held_read
held_read_told = refl

held_read_copy : (held_read.nodes 0).state.copy ≡ 2 ∷ []
unfolding held_read
held_read_copy = refl

held_read_firsts : firsts_at held_read ≡ 3 ∷ 3 ∷ []
unfolding held_read
held_read_firsts = refl

held_read_ids : map (λ (f : First). f.id) held_read.order ≡ op_id 0 0 ∷ op_id 1 0 ∷ []
unfolding held_read
held_read_ids = refl

held_read_reads : held_read.reads ≡ record { id = op_id 0 1; place = 1 } ∷ []
unfolding held_read
held_read_reads = refl

-- examples/waiting-swap.sched: a write is answered at once, a swap waits for its delivery
waiting_swap : World
waiting_swap = whole local_write 2 1 (Call 0 (Write 0 5) ∷ Call 0 (Swap 0 6) ∷ Take 0 1 0 ∷ Take 1 0 1 ∷ [])

waiting_swap_history : waiting_swap.history
    ≡ Called 0 (op_id 0 0) (Write 0 5) ∷ Answered 0 (op_id 0 0) Done ∷ Called 1 (op_id 0 1) (Swap 0 6)
    ∷ Answered 3 (op_id 0 1) (Value 5) ∷ []
unfolding waiting_swap
waiting_swap_history = refl

waiting_swap_told : told waiting_swap 0
    ≡ record { answer = Done; place = 0 } ∷ record { answer = Value 5; place = 1 } ∷ []
unfolding waiting_swap
waiting_swap_told = refl

waiting_swap_copies : (waiting_swap.nodes 0).state.copy ++ (waiting_swap.nodes 1).state.copy ≡ 6 ∷ 5 ∷ []
unfolding waiting_swap
waiting_swap_copies = refl

waiting_swap_ids : map (λ (f : First). f.id) waiting_swap.order ≡ op_id 0 0 ∷ op_id 0 1 ∷ []
unfolding waiting_swap
waiting_swap_ids = refl

-- examples/seen-swap.sched: a read sees an unfinished swap
seen_swap : World
seen_swap = whole local_read 2 1 (Call 0 (Swap 0 5) ∷ Take 0 1 0 ∷ Call 1 (Read 0) ∷ [])

seen_swap_history : seen_swap.history
    ≡ Called 0 (op_id 0 0) (Swap 0 5) ∷ Called 2 (op_id 1 0) (Read 0) ∷ Answered 2 (op_id 1 0) (Value 5) ∷ []
unfolding seen_swap
seen_swap_history = refl

seen_swap_ids : map (λ (f : First). f.id) seen_swap.order ≡ op_id 0 0 ∷ []
unfolding seen_swap
seen_swap_ids = refl

-- examples/swap-lock.sched: of two swaps one answers 0 and the other 1
swap_lock : World
swap_lock = whole linear 2 1 (Call 0 (Swap 0 1) ∷ Call 1 (Swap 0 1) ∷ Take 0 1 0 ∷ Take 1 0 0 ∷ Take 0 1 2 ∷ [])

swap_lock_told : told swap_lock 0 ++ told swap_lock 1
    ≡ record { answer = Value 0; place = 0 } ∷ record { answer = Value 1; place = 1 } ∷ []
unfolding swap_lock
swap_lock_told = refl

-- a number that is not expected
frame_out_of_turn : World
frame_out_of_turn =
    whole linear 2 1 (Call 0 (Write 0 1) ∷ Call 1 (Write 0 2) ∷ Take 0 1 0 ∷ Take 1 0 2 ∷ Take 1 0 0 ∷ [])

frame_out_of_turn_firsts : firsts_at frame_out_of_turn ≡ 2 ∷ 4 ∷ []
unfolding frame_out_of_turn
frame_out_of_turn_firsts = refl

frame_out_of_turn_copies : (frame_out_of_turn.nodes 0).state.copy ++ (frame_out_of_turn.nodes 1).state.copy ≡ 2 ∷ 1 ∷ []
unfolding frame_out_of_turn
frame_out_of_turn_copies = refl

-- three processes
two_writers_of_three : World
two_writers_of_three = whole linear 3 1 (Call 0 (Write 0 1) ∷ Call 1 (Write 0 2) ∷ Take 0 2 0 ∷ Take 2 1 0 ∷ Take 0 1 0 ∷ Take 1 0 0 ∷ Take 0 1 2 ∷ Take 2 0 1 ∷ [])

two_writers_of_three_firsts : firsts_at two_writers_of_three ≡ 4 ∷ 6 ∷ []
unfolding two_writers_of_three
two_writers_of_three_firsts = refl

two_writers_of_three_told : told two_writers_of_three 0 ++ told two_writers_of_three 1
    ≡ record { answer = Done; place = 0 } ∷ record { answer = Done; place = 1 } ∷ []
unfolding two_writers_of_three
two_writers_of_three_told = refl

two_writers_of_three_ids : map (λ (f : First). f.id) two_writers_of_three.order ≡ op_id 0 0 ∷ op_id 1 0 ∷ []
unfolding two_writers_of_three
two_writers_of_three_ids = refl

-- a busy process, a frame that isn't there, a process that isn't there: nothing changes
refused_events : World
refused_events = whole linear 2 1 (Call 0 (Write 0 5) ∷ Call 0 (Read 0) ∷ Take 0 0 0 ∷ Take 0 1 1 ∷ Tick 2 ∷ [])

refused_events_count : length refused_events.accepted ≡ 1
unfolding refused_events
refused_events_count = refl

-- the count alone comes back: no answer
count_alone : World
count_alone = whole linear 2 1 (Call 0 (Write 0 5) ∷ Take 0 1 0 ∷ Take 1 0 0 ∷ [])

count_alone_told : told count_alone 0 ≡ []
unfolding count_alone
count_alone_told = refl

count_alone_firsts : firsts_at count_alone ≡ 1 ∷ []
unfolding count_alone
count_alone_firsts = refl

-- a local write that is delivered nowhere
write_alone : World
write_alone = whole local_write 2 1 (Call 0 (Write 0 5) ∷ [])

write_alone_told : told write_alone 0 ≡ record { answer = Done; place = 0 } ∷ []
unfolding write_alone
write_alone_told = refl

write_alone_firsts : firsts_at write_alone ≡ []
unfolding write_alone
write_alone_firsts = refl

-- a swap answers the old value
old_value : World
old_value = whole linear 1 1 (Call 0 (Swap 0 5) ∷ Call 0 (Swap 0 6) ∷ [])

old_value_history : old_value.history
    ≡ Called 0 (op_id 0 0) (Swap 0 5) ∷ Answered 0 (op_id 0 0) (Value 0) ∷ Called 1 (op_id 0 1) (Swap 0 6)
    ∷ Answered 1 (op_id 0 1) (Value 5) ∷ []
unfolding old_value
old_value_history = refl

-- a compare-and-swap writes where its register holds the expected value, and changes nothing where not
found_then_not : World
found_then_not = whole linear 1 1 (Call 0 (CompareAndSwap 0 0 5) ∷ Call 0 (CompareAndSwap 0 0 6) ∷ Call 0 (Read 0) ∷ [])

found_then_not_told : told found_then_not 0
    ≡ record { answer = Done; place = 0 } ∷ record { answer = Unequal; place = 1 }
    ∷ record { answer = Value 5; place = 2 } ∷ []
unfolding found_then_not
found_then_not_told = refl

-- of two compare-and-swaps that expect the first value the one of the lesser stamp is done, and the other finds its
-- value
cas_lock : World
cas_lock = whole linear 2 1 (Call 0 (CompareAndSwap 0 0 1) ∷ Call 1 (CompareAndSwap 0 0 2) ∷ Take 0 1 0 ∷ Take 1 0 0 ∷ Take 0 1 2 ∷ [])

cas_lock_told : told cas_lock 0 ++ told cas_lock 1
    ≡ record { answer = Done; place = 0 } ∷ record { answer = Unequal; place = 1 } ∷ []
unfolding cas_lock
cas_lock_told = refl

cas_lock_copies : (cas_lock.nodes 0).state.copy ++ (cas_lock.nodes 1).state.copy ≡ 1 ∷ 1 ∷ []
unfolding cas_lock
cas_lock_copies = refl
