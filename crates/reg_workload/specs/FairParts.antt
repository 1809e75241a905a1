-- Conditions of a fair play under way, and the parts of its rounds. They carry a proof: no promise speaks of them.
use Rattle.std.specs.Prelude.{ℕ, ◌≡◌, ◌≢◌, ◌+◌, ◌*◌, ◌<◌, ◌≤◌, max, ◌==◌, cond, Bool, true, false, List, [], ◌∷◌}
use Rattle.std.specs.Prelude.{length, drop}
use Rattle.reg_frames.specs.declared.bodies.Body.TheVariants.{Cast, Ack}
use Rattle.reg_frames.specs.declared.bodies.Frame.{Frame}
use Rattle.reg_frames.specs.declared.bodies.Frame.TheVariants.{Numbered, Got}
use Rattle.reg_front.specs.declared.starts.Start.{Start}
use Rattle.reg_base.specs.declared.memory.Op.{Op}
use Rattle.reg_process.specs.Process.{peer_at}
use Rattle.reg_world.specs.Nodes.{Nodes}
use Rattle.reg_world.specs.NodeParts.{NothingPending}
use Rattle.std.specs.List.{range_with_len, sum_by}
use Rattle.reg_base.specs.declared.limits.TheConstants.{MOST_EVENTS}
use Rattle.reg_base.specs.Sums.{total}
use Rattle.reg_world.specs.Worlds.{run_in}
use Rattle.reg_workload.specs.Plays.{Playing, cursor_at, calls_of}
use Rattle.reg_workload.specs.PlayParts.{IsReadyToCall, GoesOn}
use Rattle.reg_workload.specs.Fair.{takes_of, ticks_of, most_for_call}

-- the number that a receiver expects after these frames, in order
abbrev pub expected_after : ℕ → List Frame → ℕ
expected_after e [] = e
expected_after e (Numbered i body ∷ fs) = expected_after (cond (i == e) (e + 1) e) fs
expected_after e (Got count ∷ fs) = expected_after e fs

-- the highest count that a sender was told after these frames
abbrev pub counted_after : ℕ → List Frame → ℕ
counted_after c [] = c
counted_after c (Numbered i body ∷ fs) = counted_after c fs
counted_after c (Got count ∷ fs) = counted_after (max c count) fs

-- Where of each wire the given number of frames is passed: those that are left bring all that was queued to the
-- receiver, and all that it accepted to the knowledge of the sender.
pub record InStep (n : ℕ) (w : Nodes) (behind : ℕ → ℕ → ℕ) : Type 0 where
  pub within : (p q : ℕ) → p < n → q < n → p ≢ q → behind p q ≤ length ((w p).wire q)
  pub bodies : (p q : ℕ) → p < n → q < n → p ≢ q
      → expected_after (peer_at (w q).state p).expected (drop (behind p q) ((w p).wire q)) ≡ length (w p).queued
  pub counts : (p q : ℕ) → p < n → q < n → p ≢ q
      → counted_after (peer_at (w p).state q).first (drop (behind q p) ((w q).wire p))
      ≡ (peer_at (w q).state p).expected

-- How many takes a frame asks for, its own among them, if from now on each frame is taken once: a cast is answered by a
-- count, and by an acknowledgement for each other process, and that by a count.
abbrev pub takes_for : ℕ → Frame → ℕ
takes_for n (Numbered i (Cast t op)) = 2 * n
takes_for n (Numbered i (Ack t)) = 2
takes_for n (Got count) = 1

-- how many takes these frames ask for
abbrev pub takes_for_all : ℕ → List Frame → ℕ
takes_for_all n frames = sum_by (takes_for n) frames

-- how many takes the frames of a wire ask for that are not passed, where there is such a wire
abbrev pub left_on : ℕ → Nodes → (ℕ → ℕ → ℕ) → ℕ → ℕ → ℕ
left_on n w behind a b = cond (a == b) 0 (takes_for_all n (drop (behind a b) ((w a).wire b)))

-- how many takes the frames of all wires ask for that are not passed
abbrev pub left_in : ℕ → Nodes → (ℕ → ℕ → ℕ) → ℕ
left_in n w behind = total n (λ a. total n (left_on n w behind a))

-- the passed frames are those taken, in order, and there are no more of them than events
pub record IsFair (start : Op → ℕ → Start) (s : Playing) : Type 0 where
  pub spent : length s.made.accepted + left_in s.made.processes (run_in start s.made).nodes (cursor_at s)
      ≤ total s.made.processes (λ p. length (calls_of p s.made.accepted)) * most_for_call s.made.processes
  pub in_step : InStep s.made.processes (run_in start s.made).nodes (cursor_at s)
  pub few : (p q : ℕ) → cursor_at s p q ≤ length (run_in start s.made).accepted
  pub takes : (p q : ℕ) → takes_of p q s.made.accepted ≡ range_with_len 0 (cursor_at s p q)
  pub ticks : ticks_of s.made.accepted ≡ []

-- each frame of the wire is passed
abbrev pub IsBehind : (Op → ℕ → Start) → Playing → ℕ → ℕ → Type 0
IsBehind start s from to = from ≢ to → length (((run_in start s.made).nodes from).wire to) ≤ cursor_at s from to

-- one more frame of this wire is passed
pub record Leaves (old : Playing) (from to : ℕ) (new : Playing) : Type 0 where
  pub made : new.made ≡ old.made
  pub scripts : new.scripts ≡ old.scripts
  pub behind : cursor_at old from to < MOST_EVENTS → cursor_at new from to ≡ cursor_at old from to + 1
  pub others : (a b : ℕ) → (a ≡ from → b ≡ to → ⊥) → cursor_at new a b ≡ cursor_at old a b

-- the play went on fairly, with no event undone
pub record GoesFairly (start : Op → ℕ → Start) (budget : ℕ) (old new : Playing) : Type 0 where
  pub on : GoesOn budget old new
  pub fair : IsFair start new
  pub more : length old.made.accepted ≤ length new.made.accepted

-- A part of a round. It ends early only where the budget is used up. Where it made no event nothing changed, and `rest`
-- holds unless it ended early.
pub record RoundPart (start : Op → ℕ → Start) (budget : ℕ) (old new : Playing) (is_full : Bool)
    (rest : Type 0) : Type 0 where
  pub goes : GoesFairly start budget old new
  pub full : is_full ≡ true → length new.made.accepted ≡ budget
  pub same : length new.made.accepted ≡ length old.made.accepted → new ≡ old
  pub still : is_full ≡ false → length new.made.accepted ≡ length old.made.accepted → rest

-- none of the first processes may call
abbrev pub NoneMayCall : (Op → ℕ → Start) → Playing → ℕ → Type 0
NoneMayCall start s n = (p : ℕ) → p < n → IsReadyToCall start s p → ⊥

-- each frame from this process to the first ones is passed, and each frame from the first ones to all
abbrev pub AllBehindFrom : (Op → ℕ → Start) → Playing → ℕ → ℕ → Type 0
AllBehindFrom start s from n = (to : ℕ) → to < n → IsBehind start s from to

abbrev pub AllBehind : (Op → ℕ → Start) → Playing → ℕ → Type 0
AllBehind start s n = (from : ℕ) → from < n → AllBehindFrom start s from s.made.processes

-- no process may call, and nothing is pending
pub record AtRest (start : Op → ℕ → Start) (s : Playing) : Type 0 where
  pub no_call : NoneMayCall start s s.made.processes
  pub nothing_pending : NothingPending s.made.processes (run_in start s.made).nodes
