-- Logs put into one order: orders of their entries that are runs, and how far they go.
use Rattle.std.specs.Prelude.{ℕ, ◌≡◌, ◌<◌, ◌≤◌, List, length, Some, None}
use Rattle.reg_base.specs.declared.limits.TheConstants.{MOST_EVENTS}
use Rattle.reg_base.specs.declared.memory.Op.{Op}
use Rattle.reg_base.specs.Shape.{Extent}
use Rattle.reg_front.specs.declared.starts.Start.{Start}
use Rattle.reg_world.specs.Worlds.{Made}
use Rattle.reg_records.specs.declared.entries.LogEntry.{LogEntry}
use Rattle.reg_records.specs.Records.{IsFaithful, Plays, entry_of, mentions}
use Rattle.reg_records.specs.declared.merging.MergeFault.{MergeFault}
use Rattle.reg_records.specs.declared.merging.MergeFault.TheVariants.{Other, TooMany, OutOfMemory}

-- The order is a run of first entries of the logs, one mention for each, which ends in this world. The k-th mention of
-- a process stands for the k-th entry of its log.
abbrev pub IsRun : (Op → ℕ → Start) → Extent → List (List LogEntry) → List ℕ → Made → Type 0
IsRun start shape logs order w = Plays start shape order logs (length order) w

-- no run of first entries of the logs has more than this many of p
abbrev pub NoneHasMore : (Op → ℕ → Start) → Extent → List (List LogEntry) → ℕ → ℕ → Type 0
NoneHasMore start shape logs p count =
    (further : List ℕ) (w : Made) → IsRun start shape logs further w → mentions p further ≤ count

-- A greatest order: it is a run of first entries of the logs, and no such run has more entries of any log.
pub record IsGreatest (start : Op → ℕ → Start) (shape : Extent) (logs : List (List LogEntry))
    (order : List ℕ) : Type 0 where
  pub world : Made
  pub runs : IsRun start shape logs order world
  pub most : (p : ℕ) → NoneHasMore start shape logs p (mentions p order)

-- The first process of whose log the order leaves an entry out, and the place of the first one that it leaves out.
pub record IsFirstLeft (logs : List (List LogEntry)) (order : List ℕ) (p place : ℕ) : Type 0 where
  pub here : place ≡ mentions p order
  pub entry : LogEntry
  pub left : entry_of logs p place ≡ Some entry
  pub before : (q : ℕ) → q < p → entry_of logs q (mentions q order) ≡ None

-- The entry at this place of the log of p is in no run of first entries of the logs, though one has all before it.
pub record IsBlocked (start : Op → ℕ → Start) (shape : Extent) (logs : List (List LogEntry))
    (p place : ℕ) : Type 0 where
  pub order : List ℕ
  pub world : Made
  pub runs : IsRun start shape logs order world
  pub here : place ≡ mentions p order
  pub entry : LogEntry
  pub stands : entry_of logs p place ≡ Some entry
  pub most : NoneHasMore start shape logs p place

-- A run of first entries of the logs has as many as a run can have, and leaves one out.
pub record IsFull (start : Op → ℕ → Start) (shape : Extent) (logs : List (List LogEntry)) : Type 0 where
  pub order : List ℕ
  pub world : Made
  pub runs : IsRun start shape logs order world
  pub full : length order ≡ MOST_EVENTS
  pub process : ℕ
  pub entry : LogEntry
  pub left : entry_of logs process (mentions process order) ≡ Some entry

-- why logs are refused, `OutOfMemory` aside
abbrev pub IsMergeFault : (Op → ℕ → Start) → Extent → List (List LogEntry) → MergeFault → Type 0
IsMergeFault start shape logs (Other p place) = IsBlocked start shape logs p place
IsMergeFault start shape logs TooMany = IsFull start shape logs
IsMergeFault start shape logs OutOfMemory = Unit {0}

-- some order of all entries of the logs is a run
abbrev pub HasOrder : (Op → ℕ → Start) → Extent → List (List LogEntry) → Type 0
HasOrder start shape logs = (order : List ℕ) × (w : Made) × IsFaithful start shape order logs w
