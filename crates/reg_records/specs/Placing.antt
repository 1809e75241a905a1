-- Entries as they are placed. They carry a proof: no promise speaks of them.
use Rattle.std.specs.Prelude.{ℕ, ◌≡◌, ◌<◌, ◌≤◌, ◌+◌, Bool, true, false, List, length, Some}
use Rattle.reg_base.specs.declared.limits.TheConstants.{MOST_EVENTS}
use Rattle.reg_base.specs.declared.memory.Op.{Op}
use Rattle.reg_base.specs.Shape.{Extent}
use Rattle.reg_front.specs.declared.starts.Start.{Start}
use Rattle.reg_process.specs.declared.events.Event.{Event}
use Rattle.reg_world.specs.Worlds.{Made, run_in, with_event}
use Rattle.reg_records.specs.declared.entries.LogEntry.{LogEntry}
use Rattle.reg_records.specs.Playing.{AreTallied, IsEntry, IsEventOf}
use Rattle.reg_records.specs.Records.{entry_of, mentions}
use Rattle.reg_records.specs.declared.going.Search.{Search}
use Rattle.reg_records.specs.declared.going.Search.TheVariants.{Whole}
use Rattle.reg_records.specs.declared.going.Going.{Going}
use Rattle.reg_records.specs.declared.going.Going.TheVariants.{Made as WasMade, Waits as Waited, Other}
use Rattle.reg_records.specs.declared.placing.Next.{Next}
use Rattle.reg_records.specs.declared.placing.Next.TheVariants.{Placed, Waits, Done}
use Rattle.reg_records.specs.Merges.{IsRun}

-- no event is the entry's step with its reply
abbrev pub NoEntry : (Op → ℕ → Start) → Made → ℕ → LogEntry → Type 0
NoEntry start w p entry = (e : Event) → IsEntry start w p entry e → ⊥

-- What came of trying to make an entry. Where it waits, and whole wires were looked through, no event is it.
abbrev pub HasGone : (Op → ℕ → Start) → Made → ℕ → LogEntry → Search → Going → Made → Type 0
HasGone start old p entry search WasMade new =
    (e : Event) × IsEntry start old p entry e × (new ≡ with_event start old e)
HasGone start old p entry search Waited new = (new ≡ old) × (search ≡ Whole → NoEntry start old p entry)
HasGone start old p entry search Other new =
    ((e : Event) × IsEventOf (run_in start old).nodes p entry.step e) × NoEntry start old p entry

-- the entries that are placed: their processes in order, how many there are of each, and the world after them
pub record Stand : Type 0 where
  pub order : List ℕ
  pub counts : List ℕ
  pub world : Made

abbrev pub shape_of : Made → Extent
shape_of w = record { processes = w.processes; registers = w.registers }

-- what is placed is a run
pub record IsPlacing (start : Op → ℕ → Start) (logs : List (List LogEntry)) (s : Stand) : Type 0 where
  pub runs : IsRun start (shape_of s.world) logs s.order s.world
  pub going : s.world.failed ≡ false
  pub tallied : AreTallied s.counts s.order (length s.order)
  pub len : length s.counts ≡ length logs

-- nothing is placed
pub record IsNew (shape : Extent) (s : Stand) : Type 0 where
  pub shape_is : shape_of s.world ≡ shape
  pub none : (start : Op → ℕ → Start) (logs : List (List LogEntry)) → length logs ≡ shape.processes
      → IsPlacing start logs s

-- more is placed, by at least this many entries
pub record GoesOnBy (more : ℕ) (start : Op → ℕ → Start) (logs : List (List LogEntry)) (old new : Stand) : Type 0 where
  pub placing : IsPlacing start logs new
  pub shape : shape_of new.world ≡ shape_of old.world
  pub longer : length old.order + more ≤ length new.order

abbrev pub GoesOn : (Op → ℕ → Start) → List (List LogEntry) → Stand → Stand → Type 0
GoesOn = GoesOnBy 0

-- the next entry of the log of p, if there is one, can't go, and not for want of room
abbrev pub CannotGo : (Op → ℕ → Start) → List (List LogEntry) → Stand → ℕ → Type 0
CannotGo start logs s p =
    (entry : LogEntry) → entry_of logs p (mentions p s.order) ≡ Some entry
    → (length s.order < MOST_EVENTS) × NoEntry start s.world p entry

-- what came of trying to place the next entry of the log of p
abbrev pub HasPlaced : (Op → ℕ → Start) → List (List LogEntry) → ℕ → Stand → Search → Next → Stand → Type 0
HasPlaced start logs p old search Placed new = GoesOnBy 1 start logs old new
HasPlaced start logs p old search Waits new = (new ≡ old) × (search ≡ Whole → CannotGo start logs old p)
HasPlaced start logs p old search Done new = (new ≡ old) × (search ≡ Whole → CannotGo start logs old p)

-- whether any entry was placed, or none can go
abbrev pub HasPlacedAny : (Op → ℕ → Start) → List (List LogEntry) → Stand → Bool → Stand → Type 0
HasPlacedAny start logs old true new = GoesOnBy 1 start logs old new
HasPlacedAny start logs old false new =
    GoesOnBy 0 start logs old new × ((p : ℕ) → p < length logs → CannotGo start logs new p)
