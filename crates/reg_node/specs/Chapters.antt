-- How far the processes of a cluster have come in a chapter, and when it is over. Promises cite it.
use Rattle.std.specs.Prelude.{ℕ, ◌≡◌, ◌≢◌, ◌+◌, ◌*◌, ◌<◌, ◌≤◌, ◌⊎◌, ◌==◌, nat_le, Bool, true, if◌then◌else◌, List, ◌∷◌}
use Rattle.std.specs.Prelude.{length, flat_map, slice_get, slice_index_or, slice_set, Option, None, Some}
use Rattle.std.specs.Int.{w64, to_be_bytes}
use Rattle.std.specs.List.{sum}
use Rattle.reg_process.specs.Process.{State, next_of, peer_at, pending_of}
use Rattle.reg_node.specs.declared.chapters.ToldFault.{ToldFault}
use Rattle.reg_node.specs.declared.chapters.ToldFault.TheVariants.{NoProcess, NoState, OutOfMemory}

-- How far a process has come: whether it calls nothing more in this chapter and has no operation that goes on, whether
-- all its frames are acknowledged, how many bodies it has queued for each other process, and how many it has accepted
-- of each process.
pub record Standing : Type 0 where
  pub is_quiet : Bool
  pub is_at_rest : Bool
  pub put : ℕ
  pub accepted : List ℕ

-- Its bytes

abbrev pub bit : Bool → ℕ → ℕ
bit is value = if is then value else 0

abbrev pub flags_of : Standing → ℕ
flags_of s = bit s.is_quiet 1 + bit s.is_at_rest 2

-- each number as eight bytes, the highest first
abbrev pub numbers_bytes : List ℕ → List ℕ
numbers_bytes numbers = flat_map (to_be_bytes w64) numbers

abbrev pub standing_bytes : Standing → List ℕ
standing_bytes s = flags_of s ∷ numbers_bytes (s.put ∷ s.accepted)

-- there are as many of them as spell a state of one of so many processes, and its flags are known
abbrev pub HasForm : ℕ → List ℕ → Type 0
HasForm processes bytes = (length bytes ≡ 9 + processes * 8) × (slice_index_or bytes 0 0 ≤ 3)

-- the bytes spell this state of one of so many processes
pub record SpellsStanding (processes : ℕ) (bytes : List ℕ) (s : Standing) : Type 0 where
  pub of_all : length s.accepted ≡ processes
  pub spelled : bytes ≡ standing_bytes s

-- The later one of two states of a process

-- the sum of its numbers weighs more than whether it is quiet, and that more than whether it is at rest
abbrev pub rank : Standing → ℕ
rank s = (s.put + sum s.accepted) * 4 + bit s.is_quiet 2 + bit s.is_at_rest 1

-- whether the new state is kept where a process told another before: unless the old one is later
abbrev pub is_kept : Option Standing → Standing → Bool
is_kept None new = true
is_kept (Some old) new = nat_le (rank old) (rank new)

-- What the processes told, and when the chapter is over

-- what each process told
abbrev pub Tale : Type 0
Tale = List (Option Standing)

-- it told that it accepted so many bodies of another
pub record HasAccepted (told : Tale) (process of count : ℕ) : Type 0 where
  pub standing : Standing
  pub there : slice_get told process ≡ Some (Some standing)
  pub is : slice_get standing.accepted of ≡ Some count

-- it told that it is quiet and at rest, and each other told that it accepted as many bodies of it as it told to have
-- put
pub record IsDone (told : Tale) (process : ℕ) : Type 0 where
  pub standing : Standing
  pub there : slice_get told process ≡ Some (Some standing)
  pub quiet : standing.is_quiet ≡ true
  pub rest : standing.is_at_rest ≡ true
  pub accepted : (q : ℕ) → q < length told → q ≢ process → HasAccepted told q process standing.put

-- the chapter is over
abbrev pub IsOver : Tale → Type 0
IsOver told = (p : ℕ) → p < length told → IsDone told p

-- What a process tells

-- This is its state by what it knows of the others: of each how many bodies it accepted, and the most that it queued
-- for any.
pub record IsStanding (s : State) (is_quiet : Bool) (standing : Standing) : Type 0 where
  pub quiet : standing.is_quiet ≡ is_quiet
  pub rest : standing.is_at_rest ≡ (pending_of s.peers == 0)
  pub most : (q : ℕ) → q < length s.peers → q ≢ s.me → next_of (peer_at s q) ≤ standing.put
  pub of_one : (standing.put ≡ 0) ⊎ ((q : ℕ) × (standing.put ≡ next_of (peer_at s q)))
  pub of_all : length standing.accepted ≡ length s.peers
  pub accepted : (q : ℕ) → q < length s.peers → q ≢ s.me → slice_get standing.accepted q ≡ Some (peer_at s q).expected

-- in its own place stands 0, since it accepts none of itself
abbrev pub OwnIsNone : State → List ℕ → Type 0
OwnIsNone s accepted = s.me < length s.peers → slice_get accepted s.me ≡ Some 0

-- A chapter, as one process sees it

-- its own number, and what each told
pub record ChapterState : Type 0 where
  pub me : ℕ
  pub told : Tale

-- what is kept once this process told this state
abbrev pub with_standing : Tale → ℕ → Standing → Tale
with_standing told process s =
    if is_kept (slice_index_or told process None) s then slice_set told process (Some s) else told

-- the bytes of another were heard
pub record HearsStanding (old : ChapterState) (sender : ℕ) (bytes : List ℕ) (new : ChapterState) : Type 0 where
  pub standing : Standing
  pub there : sender < length old.told
  pub spelled : SpellsStanding (length old.told) bytes standing
  pub kept : new ≡ record old { told = with_standing old.told sender standing }

-- the own process told in these bytes how far it has come
pub record TellsStanding (s : State) (is_quiet : Bool) (old : ChapterState) (bytes : List ℕ)
    (new : ChapterState) : Type 0 where
  pub standing : Standing
  pub is : IsStanding s is_quiet standing
  pub own : OwnIsNone s standing.accepted
  pub spelled : bytes ≡ standing_bytes standing
  pub kept : new ≡ record old { told = slice_set old.told old.me (Some standing) }

-- why not, and then nothing has changed
abbrev pub IsUnheard : ChapterState → ℕ → List ℕ → ToldFault → Type 0
IsUnheard old sender bytes NoProcess = length old.told ≤ sender
IsUnheard old sender bytes NoState =
    (sender < length old.told) × ((s : Standing) → ¬ SpellsStanding (length old.told) bytes s)
IsUnheard old sender bytes OutOfMemory = (sender < length old.told) × HasForm (length old.told) bytes
