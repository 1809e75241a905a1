-- Plays: runs in which each process calls the operations of its script, one after another.
use Rattle.std.specs.Prelude.{ℕ, ◌≡◌, ◌<◌, ◌≤◌, ◌↔◌, ◌==◌, ◌&&◌, not, nat_lt, Bool, true, false, cond, zero, suc, ◌+◌}
use Rattle.std.specs.Prelude.{List, [], ◌∷◌, length, take, replicate, Option, Some, None, slice_index_or, slice_set}
use Rattle.std.specs.List.{flat_map}
use Rattle.std.specs.Option.{is_some}
use Rattle.reg_base.specs.declared.limits.TheConstants.{MOST_PROCESSES}
use Rattle.reg_base.specs.declared.memory.Op.{Op}
use Rattle.reg_base.specs.declared.memory.Op.TheVariants.{Read}
use Rattle.reg_base.specs.Shape.{Extent}
use Rattle.reg_front.specs.declared.starts.Start.{Start}
use Rattle.reg_process.specs.Process.{pending_of}
use Rattle.reg_process.specs.declared.events.Event.{Event}
use Rattle.reg_process.specs.declared.events.Event.TheVariants.{Call, Take, Tick}
use Rattle.reg_world.specs.Worlds.{Made, run_in, new_world, with_event}

-- what a process calls in an event
abbrev pub call_at : ℕ → Event → List Op
call_at p (Call q op) = cond (q == p) (op ∷ []) []
call_at p (Take from to number) = []
call_at p (Tick q) = []

-- what a process calls in these events, in order
abbrev pub calls_of : ℕ → List Event → List Op
calls_of p events = flat_map (call_at p) events

-- the script of a process
abbrev pub script_of : List (List Op) → ℕ → List Op
script_of scripts p = slice_index_or scripts p []

-- the calls of a process are the first ones of its script
abbrev pub FollowsScript : List (List Op) → List Event → ℕ → Type 0
FollowsScript scripts events p = calls_of p events ≡ take (length (calls_of p events)) (script_of scripts p)

-- a process has called all of its script, and is not busy
pub record IsDone (start : Op → ℕ → Start) (scripts : List (List Op)) (w : Made) (p : ℕ) : Type 0 where
  pub calls : calls_of p w.accepted ≡ script_of scripts p
  pub idle : ((run_in start w).nodes p).state.running ≡ None

-- every script is used up, and no process is busy
abbrev pub IsFinished : (Op → ℕ → Start) → List (List Op) → Made → Type 0
IsFinished start scripts w = (p : ℕ) → p < length scripts → IsDone start scripts w p

-- What happened in a play of these scripts, one for each process of this shape, with at most as many events as the
-- budget says.
pub record IsPlay (start : Op → ℕ → Start) (shape : Extent) (all : List (List Op)) (budget : ℕ) (w : Made)
    (is_finished : Bool) : Type 0 where
  pub going : w.failed ≡ false
  pub processes : w.processes ≡ shape.processes
  pub registers : w.registers ≡ shape.registers
  pub few : length w.accepted ≤ budget
  pub scripts : (p : ℕ) → p < length all → FollowsScript all w.accepted p
  pub finished : (is_finished ≡ true) ↔ IsFinished start all w

-- A play under way: the world, the scripts, how many operations of its script each process has called, and how many
-- frames of each wire are passed, so that they aren't chosen any more, by sender and then by receiver.
pub record Playing : Type 0 where
  pub made : Made
  pub scripts : List (List Op)
  pub next : List ℕ
  pub cursors : List (List ℕ)

abbrev pub next_at : Playing → ℕ → ℕ
next_at s p = slice_index_or s.next p 0

abbrev pub cursor_at : Playing → ℕ → ℕ → ℕ
cursor_at s from to = slice_index_or (slice_index_or s.cursors from []) to 0

-- nothing happened yet
abbrev pub new_play : Extent → List (List Op) → Playing
new_play shape scripts = record {
  made = new_world shape;
  scripts = scripts;
  next = replicate shape.processes 0;
  cursors = replicate shape.processes (replicate MOST_PROCESSES 0);
}

-- the steps of the first numbers, one after another
abbrev pub steps : {S : Type 0} → (ℕ → S → S) → ℕ → S → S
steps step zero s = s
steps step (suc n) s = step n (steps step n s)

-- whether the process is free and has an operation left
abbrev pub may_call : (Op → ℕ → Start) → Playing → ℕ → Bool
may_call start s p =
    nat_lt (next_at s p) (length (script_of s.scripts p)) && not (is_some ((run_in start s.made).nodes p).state.running)

-- the first frame of a wire that is not passed
abbrev pub next_frame : (Op → ℕ → Start) → Playing → ℕ → ℕ → Option ℕ
next_frame start s from to =
    cond (not (from == to) && nat_lt (cursor_at s from to) (length (((run_in start s.made).nodes from).wire to)))
    (Some (cursor_at s from to)) None

-- how many frames the process has to put again
abbrev pub pending_at : (Op → ℕ → Start) → Playing → ℕ → ℕ
pending_at start s p = pending_of ((run_in start s.made).nodes p).state.peers

-- the play after one more event
abbrev pub makes : (Op → ℕ → Start) → Playing → Event → Playing
makes start s e = record s { made = with_event start s.made e }

-- the next operation of a script
abbrev pub next_op : Playing → ℕ → Op
next_op s p = slice_index_or (script_of s.scripts p) (next_at s p) (Read 0)

-- the process called its next operation
abbrev pub calls_next : (Op → ℕ → Start) → Playing → ℕ → Playing
calls_next start s p =
    record s { made = with_event start s.made (Call p (next_op s p)); next = slice_set s.next p (next_at s p + 1) }

-- one more frame of the wire is passed
abbrev pub passes : Playing → ℕ → ℕ → Playing
passes s from to =
    record s {
      cursors = slice_set s.cursors from
          (slice_set (slice_index_or s.cursors from []) to (cursor_at s from to + 1));
    }
