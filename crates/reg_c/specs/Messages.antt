-- How messages between nodes begin, and what they are to the process that they came to, by numbers. Promises cite it.
use Rattle.std.specs.Prelude.{ℕ, ◌≡◌, ◌≢◌, ◌<◌, ◌≤◌, ◌^◌, ◌⊎◌, ◌==◌, nat_lt, not, is_some, true, List, length}
use Rattle.std.specs.Prelude.{slice_index_or, slice_set, Option, None, Some, if◌then◌else◌}
use Rattle.reg_base.specs.Names.{names_fault}
use Rattle.reg_node.specs.Messages.{SpellsMessage, SpellsStart, greeting_bytes, heard_then, met, names_crc, start_bytes}
use Rattle.reg_node.specs.declared.messages.Greeting.{Greeting}
use Rattle.reg_node.specs.declared.messages.Message.{Message}
use Rattle.reg_node.specs.declared.messages.MessageStart.{MessageStart}
use Rattle.reg_node.specs.declared.messages.Met.{Met}
use Rattle.reg_node.specs.declared.messages.Met.TheVariants.{BegunAnew, Elsewhere, Late, OtherCluster, OtherFront}
use Rattle.reg_node.specs.declared.messages.Met.TheVariants.{OtherProcesses, OtherReceiver, OtherRegisters, OtherSender}
use Rattle.reg_node.specs.declared.messages.Met.TheVariants.{Peer, Unknown}
use Rattle.reg_commands.specs.Lent.{filled}
use Rattle.reg_c.specs.declared.beginning.LogRow.{LogRow}
use Rattle.reg_c.specs.declared.messages.GreetingRow.{GreetingRow}
use Rattle.reg_c.specs.declared.messages.HeardRow.{HeardRow}
use Rattle.reg_c.specs.declared.messages.MetRow.{MetRow}
use Rattle.reg_c.specs.Beginning.{IsUnbegun, SaysNames}
use Rattle.reg_c.specs.Events.{no_shape}
use Rattle.reg_c.specs.Fronts.{front_at}
use Rattle.reg_c.specs.NodeCodes.{no_chapter, no_greeting}
use Rattle.reg_c.specs.Nodes.{flag}

-- How a message begins

abbrev pub start_by : LogRow → List (List ℕ) → ℕ → MessageStart
start_by row names to = record {
  front = row.front;
  processes = row.processes;
  registers = length names;
  names = names_crc names;
  cluster = row.cluster;
  sender = row.process;
  receiver = to;
  begun = row.begun;
  chapter = row.chapter;
}

-- a message of the process whose log these numbers and names say begins so
pub record StartsMessage (row : LogRow) (text : List ℕ) (to : ℕ) (s : MessageStart) : Type 0 where
  pub names : List (List ℕ)
  pub says : SaysNames text names
  pub good : names_fault names ≡ None
  pub front : is_some (front_at row.front) ≡ true
  pub process : row.process < row.processes
  pub chapter : row.chapter < 2 ^ 32
  pub is : s ≡ start_by row names to

-- why none does: no log is begun so, or the chapter's number is too great for a message
abbrev pub IsUnstarted : LogRow → List ℕ → ℕ → Type 0
IsUnstarted row text code = IsUnbegun row text code ⊎ ((code ≡ no_chapter) × (2 ^ 32 ≤ row.chapter))

-- the room holds its start, as far as it takes it; or nothing has changed
abbrev pub TellsStart : LogRow → List ℕ → ℕ → ℕ → List ℕ → List ℕ → Type 0
TellsStart row text to code old new =
    ((code ≡ 0) × ((s : MessageStart) × StartsMessage row text to s × (new ≡ filled (start_bytes s) old)))
    ⊎ ((0 < code) × IsUnstarted row text code × (new ≡ old))

-- What it is to its receiver

abbrev pub met_code : Met → ℕ
met_code (Peer brings) = 0
met_code Late = 1
met_code Elsewhere = 2
met_code OtherFront = 3
met_code OtherProcesses = 4
met_code OtherRegisters = 5
met_code OtherCluster = 6
met_code OtherReceiver = 7
met_code OtherSender = 8
met_code BegunAnew = 9
met_code Unknown = 10

-- its numbers, and what it is
abbrev pub met_row : Message → Met → MetRow
met_row m told = record {
  cluster = m.start.cluster;
  begun = m.start.begun;
  names = m.start.names;
  chapter = m.start.chapter;
  met = met_code told;
  registers = m.start.registers;
  front = m.start.front;
  processes = m.start.processes;
  sender = m.start.sender;
  receiver = m.start.receiver;
  brings = m.brings;
}

-- 11: the bytes are no message
abbrev pub no_row : MetRow
no_row =
    record {
      cluster = 0;
      begun = 0;
      names = 0;
      chapter = 0;
      met = 11;
      registers = 0;
      front = 0;
      processes = 0;
      sender = 0;
      receiver = 0;
      brings = 0;
    }

-- a number below 256 is that of the process by whose key it came; else there are no keys
abbrev pub key_in : ℕ → Option ℕ
key_in number = if nat_lt number 256 then Some number else None

-- the log of the process that was heard first, if one was
abbrev pub first_in : HeardRow → Option ℕ
first_in row = if row.is_heard == 0 then None else Some row.begun

abbrev pub first_of : List HeardRow → ℕ → Option ℕ
first_of heard sender = first_in (slice_index_or heard sender (record { begun = 0; is_heard = 0 }))

abbrev pub kept : List HeardRow → ℕ → Option ℕ → List HeardRow
kept heard sender None = heard
kept heard sender (Some begun) = slice_set heard sender (record { begun = begun; is_heard = 1 })

-- what the message is, by the logs that were heard first
abbrev pub met_by : MessageStart → Option ℕ → List HeardRow → Message → Met
met_by own key heard m = met own key (first_of heard m.start.sender) m

-- and which ones were then
abbrev pub heard_by : MessageStart → Option ℕ → List HeardRow → Message → List HeardRow
heard_by own key heard m =
    kept heard m.start.sender (heard_then (first_of heard m.start.sender) m (met_by own key heard m))

-- what these bytes are is told, and which logs were heard first is kept
abbrev pub TellsOf : MessageStart → ℕ → List ℕ → List HeardRow → List HeardRow → MetRow → Type 0
TellsOf own key bytes old new row =
    ((m : Message) × SpellsMessage bytes m × (row ≡ met_row m (met_by own (key_in key) old m))
    × (new ≡ heard_by own (key_in key) old m))
    ⊎ (((m : Message) → ¬ SpellsMessage bytes m) × (row ≡ no_row) × (new ≡ old))

-- the bytes are a start of a cluster of so many processes
pub record IsOwn (bytes : List ℕ) (processes : ℕ) (own : MessageStart) : Type 0 where
  pub spelled : SpellsStart bytes own
  pub of_all : processes ≡ own.processes

-- the same where `own` is the start of a message, and each process of its cluster has a row; or nothing has changed
abbrev pub TellsMet : List ℕ → ℕ → List ℕ → List HeardRow → List HeardRow → MetRow → MetRow → ℕ → Type 0
TellsMet own key bytes old new old_row row code =
    ((code ≡ 0) × ((s : MessageStart) × IsOwn own (length old) s × TellsOf s key bytes old new row))
    ⊎ ((code ≡ no_shape) × ((s : MessageStart) → ¬ IsOwn own (length old) s) × (new ≡ old) × (row ≡ old_row))

-- Greetings

abbrev pub greeting_by : ℕ → ℕ → Greeting
greeting_by wants accepted = record { is_wanting = not (wants == 0); accepted = accepted }

-- the greeting of these bytes is told; or they are none, and nothing has changed
abbrev pub TellsGreeting : List ℕ → GreetingRow → GreetingRow → ℕ → Type 0
TellsGreeting bytes old new code =
    ((code ≡ 0)
    × ((g : Greeting) × (bytes ≡ greeting_bytes g)
    × (new ≡ record { accepted = g.accepted; is_wanting = flag g.is_wanting })))
    ⊎ ((code ≡ no_greeting) × ((g : Greeting) → bytes ≢ greeting_bytes g) × (new ≡ old))
