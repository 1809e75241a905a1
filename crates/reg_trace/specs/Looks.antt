-- What is told of the state of a process, and those after each event of a run.
use Rattle.std.specs.Prelude.{ℕ, zero, suc, ◌==◌, cond, List, [], ◌∷◌, ◌++◌, Option, None, Some, slice_index}
use Rattle.reg_base.specs.Shape.{Extent}
use Rattle.reg_base.specs.declared.memory.Op.{Op}
use Rattle.reg_base.specs.declared.stamps.Delivered.{Delivered}
use Rattle.reg_front.specs.declared.starts.Start.{Start}
use Rattle.reg_process.specs.declared.known.Known.{Known}
use Rattle.reg_process.specs.Known.{known_of}
use Rattle.reg_process.specs.Process.{Running, State, peer_at}
use Rattle.reg_process.specs.declared.events.Event.{Event}
use Rattle.reg_world.specs.Histories.{process_of}
use Rattle.reg_world.specs.Worlds.{Made, run_in, with_event, new_world}
use Rattle.reg_trace.specs.declared.data.looks.Kept.{Kept}

-- What is told of a state: what the process knows of each process and keeps for it, with nothing in its own place; the
-- casts that it holds back, in the order of their stamps; the registers of its copy that are not 0; how many casts it
-- delivered; and what runs.
pub record Look : Type 0 where
  pub peers : List (Option Known)
  pub held : List Delivered
  pub copy : List Kept
  pub delivered : ℕ
  pub running : Option Running

-- what the process of a state knows of the process r, and keeps for it
abbrev pub peer_of : State → ℕ → Option Known
peer_of s r = cond (r == s.me) None (Some (known_of (peer_at s r)))

-- what the process of a state knows of each of the first n processes
abbrev pub peers_of : State → ℕ → List (Option Known)
peers_of s zero = []
peers_of s (suc r) = peers_of s r ++ peer_of s r ∷ []

-- the register r of a copy, where it is not 0
abbrev pub kept_at : List ℕ → ℕ → List Kept
kept_at values r = cond (slice_index values r == 0) [] (record { register = r; value = slice_index values r } ∷ [])

-- the registers, of the first n, that are not 0
abbrev pub kept_of : List ℕ → ℕ → List Kept
kept_of values zero = []
kept_of values (suc r) = kept_of values r ++ kept_at values r

-- what is told of the state of a process, in a run of this shape
abbrev pub look_of : Extent → State → Look
look_of shape s =
    record {
      peers = peers_of s shape.processes;
      held = s.held;
      copy = kept_of s.copy shape.registers;
      delivered = s.delivered;
      running = s.running;
    }

-- what is told of the state of an event's process, after the event in this world
abbrev pub look_behind : (Op → ℕ → Start) → Made → Event → Look
look_behind start w e =
    look_of (record { processes = w.processes; registers = w.registers })
    ((run_in start (with_event start w e)).nodes (process_of e)).state

-- the state after the first event in this world, and then those after the others in the world after it
abbrev pub looks_from : (Op → ℕ → Start) → Made → List Event → List Look
looks_from start w [] = []
looks_from start w (e ∷ es) = look_behind start w e ∷ looks_from start (with_event start w e) es

-- the states after the events of a run
abbrev pub looks_of : (Op → ℕ → Start) → Extent → List Event → List Look
looks_of start shape events = looks_from start (new_world shape) events
