-- Records of a run: what each station wrote down, and the order in which they did.
use Rattle.std.specs.Prelude.{ℕ, zero, suc, ◌≡◌, ◌<◌, ◌≤◌, ◌==◌, List, [], length, take, count_by, Option, Some, None}
use Rattle.std.specs.Prelude.{slice_get, option_and_then}
use Rattle.reg_base.specs.declared.memory.Op.{Op}
use Rattle.reg_base.specs.Shape.{Extent}
use Rattle.reg_front.specs.declared.starts.Start.{Start}
use Rattle.reg_checkers.specs.History.{IsAt}
use Rattle.reg_process.specs.declared.events.Event.{Event}
use Rattle.reg_world.specs.World.{World, move_of}
use Rattle.reg_world.specs.Worlds.{Made, run_in, with_event, new_world, reply_in}
use Rattle.reg_records.specs.declared.entries.LogEntry.{LogEntry}

-- the k-th entry of the log of p
abbrev pub entry_of : List (List LogEntry) → ℕ → ℕ → Option LogEntry
entry_of logs p k = option_and_then (λ log. slice_get log k) (slice_get logs p)

-- how often p is mentioned
abbrev pub mentions : ℕ → List ℕ → ℕ
mentions p order = count_by (λ q. q == p) order

-- One more mention: the k-th mention of a process stands for the k-th entry of its log. An event is accepted in which
-- that process makes the entry's step with the entry's reply: a frame is taken from anywhere on its wire.
pub record Turn (start : Op → ℕ → Start) (order : List ℕ) (logs : List (List LogEntry)) (place : ℕ)
    (now next : Made) : Type 0 where
  pub process : ℕ
  pub entry : LogEntry
  pub event : Event
  pub mention : IsAt order place process
  pub stands : entry_of logs process (mentions process (take place order)) ≡ Some entry
  pub move : move_of now.processes now.registers (run_in start now) event ≡ Some (process, entry.step)
  pub reply : reply_in start now event ≡ entry.reply
  pub then : next ≡ with_event start now event

-- the given number of mentions, from the first on, are a run that ends in this world
abbrev pub Plays : (Op → ℕ → Start) → Extent → List ℕ → List (List LogEntry) → ℕ → Made → Type 0
Plays start shape order logs zero w = w ≡ new_world shape
Plays start shape order logs (suc k) w =
    (before : Made) × Plays start shape order logs k before × Turn start order logs k before w

-- every entry has a mention
abbrev pub NothingLeft : List ℕ → List (List LogEntry) → Type 0
NothingLeft order logs = (p : ℕ) → p < length logs → entry_of logs p (mentions p order) ≡ None

-- A faithful record: its mentions are a run that ends in this world, and each entry is mentioned.
pub record IsFaithful (start : Op → ℕ → Start) (shape : Extent) (order : List ℕ) (logs : List (List LogEntry))
    (w : Made) : Type 0 where
  pub plays : Plays start shape order logs (length order) w
  pub all : NothingLeft order logs

-- The first place from which a record is no run: the mentions before the place are a run, and with the one at it they
-- are none; or the place is after the last mention, and some entry is left.
pub record FailsAt (start : Op → ℕ → Start) (shape : Extent) (order : List ℕ) (logs : List (List LogEntry))
    (place : ℕ) : Type 0 where
  pub reached : Made
  pub plays : Plays start shape order logs place reached
  pub within : place ≤ length order
  pub stuck : place < length order → (w : Made) → Plays start shape order logs (suc place) w → ⊥
  pub left : place ≡ length order → NothingLeft order logs → ⊥

-- the run without its list of events
abbrev pub unlisted : World → World
unlisted w = record w { accepted = [] }

-- Two worlds of the same steps. They differ at most in the place from which an equal frame was taken.
pub record AreAlike (start : Op → ℕ → Start) (u v : Made) : Type 0 where
  pub processes : u.processes ≡ v.processes
  pub registers : u.registers ≡ v.registers
  pub history : u.history ≡ v.history
  pub count : length (run_in start u).accepted ≡ length (run_in start v).accepted
  pub run : unlisted (run_in start u) ≡ unlisted (run_in start v)
