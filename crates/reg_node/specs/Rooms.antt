-- The room that a chapter has: what ends it, so that it comes to rest within the limits of a run. Promises cite it.
use Rattle.std.specs.Prelude.{ℕ, ◌≡◌, ◌+◌, ◌-◌, ◌*◌, ◌/◌, ◌<◌, ◌≤◌, ◌⊎◌, max, min, Option, unwrap_or}
use Rattle.reg_base.specs.declared.limits.TheConstants.{MOST_EVENTS, MOST_OPERATIONS}
use Rattle.reg_base.specs.Shape.{Extent}
use Rattle.reg_node.specs.declared.rooms.Room.{Room}
use Rattle.reg_node.specs.declared.rooms.NoRoom.{NoRoom}
use Rattle.reg_node.specs.declared.rooms.NoRoom.TheVariants.{NoBeginning, BadOperations, BadEntries}
use Rattle.reg_node.specs.declared.rooms.TheConstants.{USUAL_ENTRIES, USUAL_OPERATIONS}

-- The entries that an operation which is cast brings about in the logs of all, where no message is lost: its call; each
-- other process takes the cast, and all but the sender of an acknowledgement take that; and each of these messages has
-- a count, which is taken too.
abbrev pub cost : ℕ → ℕ
cost processes = 1 + 2 * (processes * (processes - 1))

-- the entries that one operation of each process brings about
abbrev pub round_cost : ℕ → ℕ
round_cost processes = processes * cost processes

-- the fewest entries that a chapter can have: each register is written, and then there is one more operation
abbrev pub least_entries : Extent → ℕ
least_entries shape = (shape.registers + 1) * cost shape.processes

-- the most: one operation of each process has room behind them
abbrev pub most_entries : Extent → ℕ
most_entries shape = MOST_EVENTS - round_cost shape.processes

-- what is given, or the usual number
abbrev pub operations_of : Option ℕ → ℕ
operations_of given = unwrap_or given USUAL_OPERATIONS

abbrev pub entries_of : Extent → Option ℕ → ℕ
entries_of shape given = unwrap_or given (max (min USUAL_ENTRIES (most_entries shape)) (least_entries shape))

-- what one process has of a chapter that ends at so many operations of a process, or entries of all logs together
abbrev pub room_of : Extent → ℕ → ℕ → Room
room_of shape operations entries = record {
  operations = operations;
  total = entries;
  entries = entries / shape.processes;
  ahead = (MOST_EVENTS - entries) / round_cost shape.processes;
}

pub record HasRoom (shape : Extent) (operations entries : ℕ) (room : Room) : Type 0 where
  pub begins : least_entries shape ≤ most_entries shape
  pub more : shape.registers < operations
  pub within : operations ≤ MOST_OPERATIONS
  pub least : least_entries shape ≤ entries
  pub most : entries ≤ most_entries shape
  pub is : room ≡ room_of shape operations entries

-- why there is none: the first of these, with the numbers that there can be
abbrev pub IsNoRoom : Extent → ℕ → ℕ → NoRoom → Type 0
IsNoRoom shape operations entries (NoBeginning least most) =
    (most < least) × (least ≡ least_entries shape) × (most ≡ most_entries shape)
IsNoRoom shape operations entries (BadOperations least most) =
    (least_entries shape ≤ most_entries shape) × (operations < least ⊎ most < operations)
    × (least ≡ shape.registers + 1) × (most ≡ MOST_OPERATIONS)
IsNoRoom shape operations entries (BadEntries least most) =
    (least_entries shape ≤ most_entries shape) × (shape.registers < operations) × (operations ≤ MOST_OPERATIONS)
    × (entries < least ⊎ most < entries) × (least ≡ least_entries shape) × (most ≡ most_entries shape)
