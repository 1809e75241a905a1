-- The pages of a book, which tell of a run, and what an event adds to them. They carry a proof: no promise speaks of
-- them.
use Rattle.std.specs.Prelude.{ℕ, ◌≡◌, ◌<◌, ◌+◌, ◌-◌, Bool, false, not, ◌==◌, cond, List, [], ◌∷◌, ◌++◌, length, map}
use Rattle.std.specs.Prelude.{drop, Option, Some, None, slice_get, slice_set, slice_index_or}
use Rattle.std.specs.List.{filter}
use Rattle.reg_base.specs.declared.limits.TheConstants.{MOST_EVENTS, MOST_OPERATIONS}
use Rattle.reg_base.specs.declared.stamps.Stamp.{Stamp}
use Rattle.reg_base.specs.declared.stamps.Delivered.{Delivered}
use Rattle.reg_base.specs.declared.memory.OpId.{OpId}
use Rattle.reg_base.specs.Order.{In}
use Rattle.reg_base.specs.Shape.{Extent}
use Rattle.reg_process.specs.declared.steps.Reply.{Reply}
use Rattle.reg_process.specs.declared.steps.Step.{Step}
use Rattle.reg_process.specs.declared.steps.Step.TheVariants.{Call, Take, Tick}
use Rattle.reg_checkers.specs.declared.entries.Entry.{Entry}
use Rattle.reg_checkers.specs.History.{IsAt, IsHistory}
use Rattle.reg_world.specs.declared.callers.Note.{Note}
use Rattle.reg_process.specs.declared.events.Event.{Event}
use Rattle.reg_world.specs.declared.order.First.{First}
use Rattle.reg_world.specs.declared.order.CopyRead.{CopyRead}
use Rattle.reg_world.specs.World.{op_id, calls_in, answers_in}
use Rattle.reg_world.specs.Tallies.{Tally, no_calls}
use Rattle.reg_world.specs.Witnesses.{last_stamp, is_after}

-- the events that were accepted, those that a run still has ahead, and how many can be added with no more memory
pub record Taken : Type 0 where
  pub taken : List Event
  pub ahead : List Event
  pub room : ℕ

-- what is told of a run; the events ahead are no part of it
pub record Pages : Type 0 where
  pub shape : Extent
  pub accepted : List Event
  pub ahead : List Event
  pub entries : List Entry
  pub order : List First
  pub reads : List CopyRead
  pub tallies : List Tally

-- what a step adds to what is kept of its process
abbrev pub calls_after : Step → ℕ → ℕ
calls_after (Call op) calls = calls + 1
calls_after (Take from frame) calls = calls
calls_after Tick calls = calls

abbrev pub note_in : ℕ → Option Stamp → List Note
note_in number None = []
note_in number (Some stamp) = record { time = stamp.time; number = number } ∷ []

abbrev pub notes_in : Step → ℕ → Option Stamp → List Note
notes_in (Call op) number cast = note_in number cast
notes_in (Take from frame) number cast = []
notes_in Tick number cast = []

abbrev pub tally_after : Tally → Step → Bool → Option Stamp → Tally
tally_after t step runs cast =
    record { calls = calls_after step t.calls; runs = runs; casts = t.casts ++ notes_in step t.calls cast }

abbrev pub tally_at : List Tally → ℕ → Tally
tally_at tallies p = slice_index_or tallies p no_calls

abbrev pub tallies_after : List Tally → ℕ → Step → Bool → Option Stamp → List Tally
tallies_after tallies p step runs cast = slice_set tallies p (tally_after (tally_at tallies p) step runs cast)

-- whether the last operation made the last cast
abbrev pub is_number : Option Note → ℕ → Bool
is_number None number = false
is_number (Some note) number = note.number == number

abbrev pub last_casts : Tally → Bool
last_casts t = is_number (slice_get t.casts (length t.casts - 1)) (t.calls - 1)

-- a read from a copy is a reply to an operation that made no cast
abbrev pub copied_in : Bool → OpId → Option Reply → List CopyRead
copied_in is_copied id None = []
copied_in is_copied id (Some reply) = cond is_copied (record { id = id; place = reply.place } ∷ []) []

abbrev pub read_in : Tally → ℕ → Option Reply → List CopyRead
read_in t p reply = copied_in (not (last_casts t)) (op_id p (t.calls - 1)) reply

-- the number of the operation whose cast has this time
abbrev pub number_at : List Note → ℕ → ℕ
number_at [] time = 0
number_at (n ∷ ns) time = cond (n.time == time) n.number (number_at ns time)

abbrev pub first_in : List Tally → ℕ → Delivered → First
first_in tallies at d =
    record {
      stamp = d.stamp;
      id = op_id d.stamp.process (number_at (tally_at tallies d.stamp.process).casts d.stamp.time);
      op = d.op;
      at = at;
    }

-- the casts that come after the last one that was delivered are delivered for the first time
abbrev pub firsts_in : List Tally → ℕ → Option Stamp → List Delivered → List First
firsts_in tallies at last ds = map (first_in tallies at) (filter (λ (d : Delivered). is_after last d.stamp) ds)

abbrev pub entries_after : List Entry → ℕ → ℕ → Tally → Step → Option Reply → List Entry
entries_after entries at p t step reply =
    (entries ++ calls_in at (op_id p t.calls) step) ++ answers_in at (op_id p (calls_after step t.calls - 1)) reply

-- the pages after the event, in which p made the step
abbrev pub entered : Pages → Event → ℕ → Step → Bool → Option Stamp → List Delivered → Option Reply → Pages
entered b e p step runs cast ds reply = record {
  shape = b.shape;
  accepted = b.accepted ++ e ∷ [];
  ahead = drop 1 b.ahead;
  entries = entries_after b.entries (length b.accepted) p (tally_at b.tallies p) step reply;
  order = b.order ++ firsts_in (tallies_after b.tallies p step runs cast) (length b.accepted) (last_stamp b.order) ds;
  reads = b.reads ++ read_in (tally_after (tally_at b.tallies p) step runs cast) p reply;
  tallies = tallies_after b.tallies p step runs cast;
}

-- a step that calls nothing
abbrev pub CallsNothing : Step → Type 0
CallsNothing (Call op) = ⊥
CallsNothing (Take from frame) = Unit {0}
CallsNothing Tick = Unit {0}

-- the pages after an event in which p made a step that calls, answers and delivers nothing
abbrev pub passed : Pages → Event → ℕ → Bool → Pages
passed b e p runs = record b {
  accepted = b.accepted ++ e ∷ [];
  ahead = drop 1 b.ahead;
  tallies = slice_set b.tallies p (record (tally_at b.tallies p) { runs = runs });
}

-- a call has a number left
abbrev pub CallFits : Step → ℕ → Type 0
CallFits (Call op) calls = calls < MOST_OPERATIONS
CallFits (Take from frame) calls = Unit {0}
CallFits Tick calls = Unit {0}

-- no two casts of a process have one time
abbrev pub TimesDiffer : List Note → Type 0
TimesDiffer notes = (i j : ℕ) (a b : Note) → IsAt notes i a → IsAt notes j b → a.time ≡ b.time → i ≡ j

-- the event may be entered
pub record MayEnter (b : Pages) (p : ℕ) (step : Step) (runs : Bool) (cast : Option Stamp) (ds : List Delivered)
    (reply : Option Reply) : Type 0 where
  pub few : length b.accepted < MOST_EVENTS
  pub process : p < length b.tallies
  pub calls : CallFits step (tally_at b.tallies p).calls
  pub history : IsHistory b.shape.processes b.shape.registers
      (entries_after b.entries (length b.accepted) p (tally_at b.tallies p) step reply)
  pub casters : (d : Delivered) → In d ds → d.stamp.process < length b.tallies
  pub once : (q : ℕ) (t : Tally) → IsAt (tallies_after b.tallies p step runs cast) q t → TimesDiffer t.casts
