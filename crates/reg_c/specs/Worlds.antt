-- A world that a caller holds, under one of the three front ends.
use Rattle.std.specs.Prelude.{nat_lt, is_err, ℕ, List, [], ◌≡◌, ◌==◌, ◌⊎◌, length, slice_get, Option, Some, None}
use Rattle.std.specs.Prelude.{option_map, unwrap_or, if◌then◌else◌}
use Rattle.reg_base.specs.Shape.{Extent, shape_of}
use Rattle.reg_base.specs.declared.memory.Op.{Op}
use Rattle.reg_base.specs.declared.memory.OpId.{OpId}
use Rattle.reg_base.specs.declared.memory.Op.TheVariants.{Read, Write, Swap, CompareAndSwap}
use Rattle.reg_base.specs.declared.memory.Answer.{Answer}
use Rattle.reg_base.specs.declared.memory.Answer.TheVariants.{Done, Value, Unequal}
use Rattle.reg_front.specs.declared.named.Front.{Front}
use Rattle.reg_front.specs.declared.named.Front.TheVariants.{Linear as LinearFront, LocalRead as LocalReadFront}
use Rattle.reg_front.specs.declared.named.Front.TheVariants.{LocalWrite as LocalWriteFront}
use Rattle.reg_front.specs.declared.starts.Start.{Start}
use Rattle.reg_front.specs.Table.{linear, local_read, local_write}
use Rattle.reg_checkers.specs.declared.entries.Entry.{Entry}
use Rattle.reg_checkers.specs.declared.entries.Entry.TheVariants.{Called, Answered}
use Rattle.reg_checkers.specs.declared.entries.Point.{Point}
use Rattle.reg_checkers.specs.Orders.{IsSerial, IsPointOrder}
use Rattle.reg_process.specs.declared.steps.Reply.{Reply}
use Rattle.reg_process.specs.declared.events.Event.{Event}
use Rattle.reg_world.specs.declared.faults.WorldFault.{WorldFault}
use Rattle.reg_world.specs.declared.faults.WorldFault.TheVariants.{OutOfMemory}
use Rattle.reg_world.specs.Keys.{IsWitness, ArePoints}
use Rattle.reg_world.specs.World.{run_of}
use Rattle.reg_world.specs.Worlds.{Made, Accepts, Refuses, new_world, reply_in, run_in}
use Rattle.reg_c.specs.declared.holding.Kept.{Kept}
use Rattle.reg_c.specs.declared.holding.Kept.TheVariants.{Linear, LocalRead, LocalWrite, Closed}
use Rattle.reg_c.specs.declared.holding.Held.{Held}
use Rattle.reg_c.specs.declared.looking.Look.{Look}
use Rattle.reg_c.specs.declared.looking.Look.TheVariants.{Events, Entries, OfEntry, ReplyValue, ReplyPlace, Ids, OfId}
use Rattle.reg_c.specs.declared.looking.Look.TheVariants.{Points, OfPoint}
use Rattle.reg_c.specs.declared.looking.EntryPart.{EntryPart}
use Rattle.reg_c.specs.declared.looking.EntryPart.TheVariants.{Event as EntryEvent, Process as EntryProcess}
use Rattle.reg_c.specs.declared.looking.EntryPart.TheVariants.{Number as EntryNumber, Kind as EntryKind}
use Rattle.reg_c.specs.declared.looking.EntryPart.TheVariants.{Register as EntryRegister, Value as EntryValue}
use Rattle.reg_c.specs.declared.looking.EntryPart.TheVariants.{Expected as EntryExpected}
use Rattle.reg_c.specs.declared.looking.IdPart.{IdPart}
use Rattle.reg_c.specs.declared.looking.IdPart.TheVariants.{Process as IdProcess, Number as IdNumber}
use Rattle.reg_c.specs.declared.looking.PointPart.{PointPart}
use Rattle.reg_c.specs.declared.looking.PointPart.TheVariants.{Process as PointProcess, Number as PointNumber}
use Rattle.reg_c.specs.declared.looking.PointPart.TheVariants.{Event as PointEvent}
use Rattle.reg_c.specs.Fronts.{front_at}
use Rattle.reg_c.specs.Events.{answer_value, fault_code, no_event, no_front, no_shape, no_world, reply_code}

-- what is kept of a world, under its front end
abbrev pub kept_under : Front → Made → Kept
kept_under LinearFront w = Linear w
kept_under LocalReadFront w = LocalRead w
kept_under LocalWriteFront w = LocalWrite w

-- what is held at first: a world of the front end of this number in which nothing happened yet
abbrev pub kept_at_first : ℕ → Extent → Option Kept
kept_at_first front shape = option_map (λ f. kept_under f (new_world shape)) (front_at front)

-- why there is no world of a shape: there was no memory, or this number names no front end
abbrev pub unmade : ℕ → ℕ
unmade front = unwrap_or (option_map (λ _. fault_code OutOfMemory) (front_at front)) no_front

-- why there is no world: these numbers are no shape, or there is none of their shape
abbrev pub refusal_of : ℕ → ℕ → ℕ → ℕ
refusal_of front processes registers = (if is_err (shape_of processes registers) then no_shape else unmade front)

-- what a caller holds at first: a world in which nothing happened yet, with no reply, and no orders that it asked for
abbrev pub IsOpened : ℕ → Extent → Held → Type 0
IsOpened front shape h =
    (kept_at_first front shape ≡ Some h.world) × (h.reply ≡ None) × (h.order.items ≡ []) × (h.points.items ≡ [])

-- an event was accepted, with its reply and that reply's number; or refused, with its fault's number and no reply
abbrev pub Goes : (Op → ℕ → Start) → Event → Made → Made → Option Reply → ℕ → Type 0
Goes start e old new reply code =
    (Accepts start old e new × (reply ≡ reply_in start old e) × (code ≡ reply_code reply))
    ⊎ ((fault : WorldFault) × Refuses start old e fault new × (reply ≡ None) × (code ≡ fault_code fault))

-- what an event does to a world, where there is one, or nothing where it was closed
abbrev pub GoesIn : Event → Kept → Kept → Option Reply → ℕ → Type 0
GoesIn e (Linear old) new reply code = (after : Made) × (new ≡ Linear after) × Goes linear e old after reply code
GoesIn e (LocalRead old) new reply code =
    (after : Made) × (new ≡ LocalRead after) × Goes local_read e old after reply code
GoesIn e (LocalWrite old) new reply code =
    (after : Made) × (new ≡ LocalWrite after) × Goes local_write e old after reply code
GoesIn e Closed new reply code = (new ≡ Closed) × (reply ≡ None) × (code ≡ no_world)

-- what an event does to what is held, or nothing where the numbers say no event
abbrev pub Steps : Option Event → Held → Held → ℕ → Type 0
Steps None old new code = (code ≡ no_event) × (new ≡ old)
Steps (Some e) old new code =
    GoesIn e old.world new.world new.reply code × (new.order ≡ old.order) × (new.points ≡ old.points)

-- the ids are those of `World::witness`, a serial order of the world's history
abbrev pub IsOrder : (Op → ℕ → Start) → Made → List OpId → Type 0
IsOrder start w ids = IsSerial w.registers w.history ids × IsWitness (run_of w.registers (run_in start w)) ids

-- the points are those of `World::points`, a point order of the world's history
abbrev pub HasPoints : (Op → ℕ → Start) → Made → List Point → Type 0
HasPoints start w points =
    IsPointOrder w.registers w.history points × ArePoints (run_of w.registers (run_in start w)) points

-- What was asked of the order: the world's serial order, and under the front end that has one its point order, else no
-- point; and nothing where the world was closed.
abbrev pub HasOrders : Kept → List OpId → List Point → Type 0
HasOrders (Linear w) ids points = IsOrder linear w ids × HasPoints linear w points
HasOrders (LocalRead w) ids points = IsOrder local_read w ids × (points ≡ [])
HasOrders (LocalWrite w) ids points = IsOrder local_write w ids × (points ≡ [])
HasOrders Closed ids points = (ids ≡ []) × (points ≡ [])

-- What a caller looks at, by a number

abbrev pub made_in : Kept → Option Made
made_in (Linear w) = Some w
made_in (LocalRead w) = Some w
made_in (LocalWrite w) = Some w
made_in Closed = None

abbrev pub events_in : Kept → ℕ
events_in k = unwrap_or (option_map (λ w. length w.accepted) (made_in k)) 0

abbrev pub history_in : Kept → List Entry
history_in k = unwrap_or (option_map (λ w. w.history) (made_in k)) []

abbrev pub event_of_entry : Entry → ℕ
event_of_entry (Called at id op) = at
event_of_entry (Answered at id answer) = at

abbrev pub id_of_entry : Entry → OpId
id_of_entry (Called at id op) = id
id_of_entry (Answered at id answer) = id

abbrev pub kind_of_op : Op → ℕ
kind_of_op (Read r) = 0
kind_of_op (Write r v) = 1
kind_of_op (Swap r v) = 2
kind_of_op (CompareAndSwap r e v) = 5

abbrev pub kind_of_answer : Answer → ℕ
kind_of_answer Done = 3
kind_of_answer (Value v) = 4
kind_of_answer Unequal = 6

abbrev pub kind_of_entry : Entry → ℕ
kind_of_entry (Called at id op) = kind_of_op op
kind_of_entry (Answered at id answer) = kind_of_answer answer

abbrev pub register_of_op : Op → ℕ
register_of_op (Read r) = r
register_of_op (Write r v) = r
register_of_op (Swap r v) = r
register_of_op (CompareAndSwap r e v) = r

abbrev pub register_of_entry : Entry → ℕ
register_of_entry (Called at id op) = register_of_op op
register_of_entry (Answered at id answer) = 0

abbrev pub value_of_op : Op → ℕ
value_of_op (Read r) = 0
value_of_op (Write r v) = v
value_of_op (Swap r v) = v
value_of_op (CompareAndSwap r e v) = v

abbrev pub value_of_entry : Entry → ℕ
value_of_entry (Called at id op) = value_of_op op
value_of_entry (Answered at id answer) = answer_value answer

abbrev pub expected_of_op : Op → ℕ
expected_of_op (CompareAndSwap r e v) = e
expected_of_op op = 0

abbrev pub expected_of_entry : Entry → ℕ
expected_of_entry (Called at id op) = expected_of_op op
expected_of_entry (Answered at id answer) = 0

-- a number of what stands there, 0 where nothing does
abbrev pub seen : {X : Type 0} → (X → ℕ) → Option X → ℕ
seen f o = unwrap_or (option_map f o) 0

abbrev pub entry_part : EntryPart → Entry → ℕ
entry_part EntryEvent e = event_of_entry e
entry_part EntryProcess e = (id_of_entry e).process
entry_part EntryNumber e = (id_of_entry e).number
entry_part EntryKind e = kind_of_entry e
entry_part EntryRegister e = register_of_entry e
entry_part EntryValue e = value_of_entry e
entry_part EntryExpected e = expected_of_entry e

abbrev pub id_part : IdPart → OpId → ℕ
id_part IdProcess id = id.process
id_part IdNumber id = id.number

abbrev pub point_part : PointPart → Point → ℕ
point_part PointProcess p = p.id.process
point_part PointNumber p = p.id.number
point_part PointEvent p = p.at

abbrev pub reply_value : Reply → ℕ
reply_value r = answer_value r.answer

abbrev pub reply_place : Reply → ℕ
reply_place r = r.place

-- what a look tells: of an entry, an id or a point it is a part of the one at this place
abbrev pub looked : Held → Look → ℕ → ℕ
looked h Events at = events_in h.world
looked h Entries at = length (history_in h.world)
looked h (OfEntry part) at = seen (entry_part part) (slice_get (history_in h.world) at)
looked h ReplyValue at = seen reply_value h.reply
looked h ReplyPlace at = seen reply_place h.reply
looked h Ids at = length h.order.items
looked h (OfId part) at = seen (id_part part) (slice_get h.order.items at)
looked h Points at = length h.points.items
looked h (OfPoint part) at = seen (point_part part) (slice_get h.points.items at)

abbrev pub look_of : ℕ → Option Look
look_of what =
    (if what == 0 then Some Events else
    (if what == 1 then Some Entries else
    (if what == 2 then Some (OfEntry EntryEvent) else
    (if what == 3 then Some (OfEntry EntryProcess) else
    (if what == 4 then Some (OfEntry EntryNumber) else
    (if what == 5 then Some (OfEntry EntryKind) else
    (if what == 6 then Some (OfEntry EntryRegister) else
    (if what == 7 then Some (OfEntry EntryValue) else
    (if what == 8 then Some ReplyValue else
    (if what == 9 then Some ReplyPlace else
    (if what == 10 then Some Ids else
    (if what == 11 then Some (OfId IdProcess) else
    (if what == 12 then Some (OfId IdNumber) else
    (if what == 13 then Some Points else
    (if what == 14 then Some (OfPoint PointProcess) else
    (if what == 15 then Some (OfPoint PointNumber) else
    (if what == 16 then Some (OfPoint PointEvent) else
    (if what == 17 then Some (OfEntry EntryExpected) else None))))))))))))))))))

-- the number that a caller gets: 0 where it asks for nothing that there is
abbrev pub number_of : Held → ℕ → ℕ → ℕ
number_of h what at = seen (λ look. looked h look at) (look_of what)
