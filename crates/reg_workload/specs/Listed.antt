-- What a seeded player keeps of its choices between turns. They carry a proof: no promise speaks of them.
use Rattle.std.specs.Prelude.{ℕ, ◌≡◌, ◌≢◌, ◌<◌, ◌≤◌, ◌^◌, Bool, true, false, nat_lt, slice_index_or}
use Rattle.std.specs.Int.{bit_at}
use Rattle.std.specs.Option.{is_some}
use Rattle.reg_base.specs.declared.limits.TheConstants.{MOST_PROCESSES}
use Rattle.reg_base.specs.declared.memory.Op.{Op}
use Rattle.reg_front.specs.declared.starts.Start.{Start}
use Rattle.reg_workload.specs.declared.choices.Chances.{Chances}
use Rattle.reg_workload.specs.declared.choices.Choice.{Choice}
use Rattle.reg_workload.specs.declared.choices.Choice.TheVariants.{Call as CallNext, Take as TakeNext, Tick as PutAgain}
use Rattle.reg_workload.specs.Plays.{Playing, may_call, next_frame, pending_at}

abbrev pub bit_of : Bool → ℕ
bit_of true = 1
bit_of false = 0

-- the first n bits tell this of each number, and there are no others
pub record AreBits (n : ℕ) (holds : ℕ → Bool) (bits : ℕ) : Type 0 where
  pub few : bits < 2 ^ n
  pub each : (i : ℕ) → i < n → bit_at bits i ≡ bit_of (holds i)

-- whether a frame of this wire can be taken, and whether a process can put frames again
abbrev pub may_take : (Op → ℕ → Start) → Playing → ℕ → ℕ → Bool
may_take start s from to = is_some (next_frame start s from to)

abbrev pub may_tick : (Op → ℕ → Start) → Playing → ℕ → Bool
may_tick start s p = nat_lt 0 (pending_at start s p)

-- the bits of the receivers of frames from this process
abbrev pub takes_at : Chances → ℕ → ℕ
takes_at c from = slice_index_or c.takes from 0

-- What is kept is true, except of what these processes can do, and of these wires. Of a wire from such a process, a
-- frame that is kept as one that can be taken can be.
pub record AreListedBut (start : Op → ℕ → Start) (s : Playing) (acts : ℕ → Type 0) (passes : ℕ → ℕ → Type 0)
    (c : Chances) : Type 0 where
  pub processes : s.made.processes ≤ MOST_PROCESSES
  pub few_calls : c.calls < 2 ^ s.made.processes
  pub few_ticks : c.ticks < 2 ^ s.made.processes
  pub few_takes : (p : ℕ) → p < s.made.processes → takes_at c p < 2 ^ s.made.processes
  pub known : (p q : ℕ) → p < s.made.processes → q < s.made.processes → (passes p q → ⊥) → bit_at (takes_at c p) q ≡ 1
      → may_take start s p q ≡ true
  pub call : (p : ℕ) → p < s.made.processes → (acts p → ⊥) → bit_at c.calls p ≡ bit_of (may_call start s p)
  pub tick : (p : ℕ) → p < s.made.processes → (acts p → ⊥) → bit_at c.ticks p ≡ bit_of (may_tick start s p)
  pub take : (p q : ℕ) → p < s.made.processes → q < s.made.processes → (acts p → ⊥) → (passes p q → ⊥)
      → bit_at (takes_at c p) q ≡ bit_of (may_take start s p q)

-- all that is kept is true
abbrev pub AreListed : (Op → ℕ → Start) → Playing → Chances → Type 0
AreListed start s c = AreListedBut start s (λ _. ⊥) (λ _ _. ⊥) c

-- the process whose event a choice is, and the wire that it takes from
abbrev pub Acts : Choice → ℕ → Type 0
Acts (CallNext q) p = q ≡ p
Acts (TakeNext from to number) p = to ≡ p
Acts (PutAgain q) p = q ≡ p

abbrev pub Passes : Choice → ℕ → ℕ → Type 0
Passes (CallNext q) a b = ⊥
Passes (TakeNext from to number) a b = (from ≡ a) × (to ≡ b)
Passes (PutAgain q) a b = ⊥

-- what is kept of all that a choice can't have changed is true
abbrev pub AreOthersListed : (Op → ℕ → Start) → Playing → Choice → Chances → Type 0
AreOthersListed start s choice c = AreListedBut start s (Acts choice) (Passes choice) c

-- the processes of a choice are processes of the play
abbrev pub IsWithin : ℕ → Choice → Type 0
IsWithin n (CallNext p) = p < n
IsWithin n (TakeNext from to number) = (from < n) × (to < n)
IsWithin n (PutAgain p) = p < n

-- what is kept of a process is true from now on, and what is kept of others stays
pub record Lists (start : Op → ℕ → Start) (s : Playing) (p : ℕ) (old new : Chances) : Type 0 where
  pub few_calls : old.calls < 2 ^ s.made.processes → new.calls < 2 ^ s.made.processes
  pub few_ticks : old.ticks < 2 ^ s.made.processes → new.ticks < 2 ^ s.made.processes
  pub call : bit_at new.calls p ≡ bit_of (may_call start s p)
  pub tick : bit_at new.ticks p ≡ bit_of (may_tick start s p)
  pub take : AreBits s.made.processes (may_take start s p) (takes_at new p)
  pub calls : (q : ℕ) → q < MOST_PROCESSES → q ≢ p → bit_at new.calls q ≡ bit_at old.calls q
  pub ticks : (q : ℕ) → q < MOST_PROCESSES → q ≢ p → bit_at new.ticks q ≡ bit_at old.ticks q
  pub takes : (q : ℕ) → q ≢ p → takes_at new q ≡ takes_at old q

-- what is kept of a wire is true from now on, and what is kept of others stays
pub record ListsWire (start : Op → ℕ → Start) (s : Playing) (from to : ℕ) (old new : Chances) : Type 0 where
  pub calls : new.calls ≡ old.calls
  pub ticks : new.ticks ≡ old.ticks
  pub few : takes_at old from < 2 ^ s.made.processes → takes_at new from < 2 ^ s.made.processes
  pub here : bit_at (takes_at new from) to ≡ bit_of (may_take start s from to)
  pub others : (q : ℕ) → q < MOST_PROCESSES → q ≢ to → bit_at (takes_at new from) q ≡ bit_at (takes_at old from) q
  pub takes : (p : ℕ) → p ≢ from → takes_at new p ≡ takes_at old p
