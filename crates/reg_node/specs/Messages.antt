-- Messages between the nodes of a cluster: how they begin, and what they are to the process that they came to. Promises
-- cite it.
use Rattle.std.specs.Prelude.{ℕ, ◌≡◌, ◌+◌, ◌-◌, ◌<◌, ◌^◌, ◌==◌, ◌&&◌, nat_lt, not, Bool, true, false, List, ◌∷◌, ◌++◌}
use Rattle.std.specs.Prelude.{drop, Option, None, Some, if◌then◌else◌}
use Rattle.std.specs.Int.{w16, w32, w64, to_be_bytes}
use Rattle.reg_text.specs.Words.{names_text}
use Rattle.reg_node.specs.Chapters.{bit}
use Rattle.reg_node.specs.declared.messages.Greeting.{Greeting}
use Rattle.reg_node.specs.declared.messages.Brings.TheVariants as brings
use Rattle.reg_node.specs.declared.messages.Message.{Message}
use Rattle.reg_node.specs.declared.messages.MessageStart.{MessageStart}
use Rattle.reg_node.specs.declared.messages.Met.{Met}
use Rattle.reg_node.specs.declared.messages.Met.TheVariants.{BegunAnew, Elsewhere, Late, OtherCluster, OtherFront}
use Rattle.reg_node.specs.declared.messages.Met.TheVariants.{OtherProcesses, OtherReceiver, OtherRegisters, OtherSender}
use Rattle.reg_node.specs.declared.messages.Met.TheVariants.{Peer, Unknown}
use Rattle.reg_node.specs.Seals.{crc_over, first_crc}

-- The form

-- the names, a space between two
abbrev pub spaced : List (List ℕ) → List ℕ
spaced names = drop 1 (names_text names)

-- their CRC-32
abbrev pub names_crc : List (List ℕ) → ℕ
names_crc names = 4294967295 - crc_over first_crc (spaced names)

-- TW and a 3; the cluster's shape and its number; who sends it to whom; and of which log, in which chapter
abbrev pub start_bytes : MessageStart → List ℕ
start_bytes s =
    84 ∷ 87 ∷ 3 ∷ s.front ∷ s.processes
    ∷ (to_be_bytes w16 s.registers
    ++ (to_be_bytes w32 s.names
    ++ (to_be_bytes w64 s.cluster ++ s.sender ∷ s.receiver
    ∷ (to_be_bytes w64 s.begun ++ to_be_bytes w32 s.chapter))))

-- each number has its size
pub record AreInRange (s : MessageStart) : Type 0 where
  pub front : s.front < 2 ^ 8
  pub processes : s.processes < 2 ^ 8
  pub registers : s.registers < 2 ^ 16
  pub names : s.names < 2 ^ 32
  pub cluster : s.cluster < 2 ^ 64
  pub sender : s.sender < 2 ^ 8
  pub receiver : s.receiver < 2 ^ 8
  pub begun : s.begun < 2 ^ 64
  pub chapter : s.chapter < 2 ^ 32

-- the bytes are a start, and this one
pub record SpellsStart (bytes : List ℕ) (s : MessageStart) : Type 0 where
  pub spelled : bytes ≡ start_bytes s
  pub within : AreInRange s

-- the bytes are a message that begins so: behind its start stands a byte for what it brings
pub record SpellsMessage (bytes : List ℕ) (m : Message) : Type 0 where
  pub rest : List ℕ
  pub spelled : bytes ≡ start_bytes m.start ++ m.brings ∷ rest
  pub within : AreInRange m.start

-- What it is to its receiver

-- the first part in which it isn't a message of this cluster to this process
abbrev pub differs : MessageStart → MessageStart → Option Met
differs own s =
    if not (s.front == own.front)
    then Some OtherFront
    else if not (s.processes == own.processes)
    then Some OtherProcesses
    else if not ((s.registers == own.registers) && (s.names == own.names))
    then Some OtherRegisters
    else if not (s.cluster == own.cluster)
    then Some OtherCluster
    else if not (s.receiver == own.sender)
    then Some OtherReceiver
    else None

-- it is a process's whose key it came by, or there are no keys
abbrev pub is_of_key : Option ℕ → ℕ → Bool
is_of_key None sender = true
is_of_key (Some key) sender = key == sender

-- the process is another one of the cluster, and its key says so
abbrev pub is_sender : MessageStart → Option ℕ → ℕ → Bool
is_sender own key sender = nat_lt sender own.processes && (not (sender == own.sender) && is_of_key key sender)

-- no other log of the process was heard first
abbrev pub is_log : Option ℕ → ℕ → Bool
is_log None begun = true
is_log (Some heard) begun = heard == begun

abbrev pub brought : ℕ → Met
brought byte =
    if byte == 0
    then Peer brings.Frames
    else if byte == 1
    then Peer brings.State
    else if byte == 2
    then Peer brings.Greeting
    else Unknown

-- what it is where it is of this cluster
abbrev pub met_within : MessageStart → Option ℕ → Option ℕ → Message → Met
met_within own key heard m =
    if not (is_sender own key m.start.sender)
    then OtherSender
    else if m.start.chapter + 1 == own.chapter
    then Late
    else if not (m.start.chapter == own.chapter)
    then Elsewhere
    else if not (is_log heard m.start.begun)
    then BegunAnew
    else brought m.brings

abbrev pub or_else : Option Met → Met → Met
or_else None other = other
or_else (Some first) other = first

-- what it is to the process whose messages begin so, if it came by this key, and this is the log of its sender that was
-- heard first
abbrev pub met : MessageStart → Option ℕ → Option ℕ → Message → Met
met own key heard m = or_else (differs own m.start) (met_within own key heard m)

-- whether the log of its sender is then the one that was heard first
abbrev pub is_heard : Met → Bool
is_heard Unknown = true
is_heard (Peer what) = true
is_heard other = false

-- which one was
abbrev pub heard_then : Option ℕ → Message → Met → Option ℕ
heard_then heard m told = if is_heard told then Some m.start.begun else heard

-- A greeting

-- 1 where it wants one back, and how many bodies its sender accepted
abbrev pub greeting_bytes : Greeting → List ℕ
greeting_bytes g = bit g.is_wanting 1 ∷ to_be_bytes w64 g.accepted
