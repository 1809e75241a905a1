-- Stages of a register, and what operations make of them. They carry a proof: no promise speaks of them.
use Rattle.std.specs.Prelude.{ℕ, ◌≡◌, ◌<◌, ◌⊎◌, true, List, Option, Some, None}
use Rattle.std.specs.Int.{bit_at}
use Rattle.reg_base.specs.declared.memory.OpId.{OpId}
use Rattle.reg_checkers.specs.declared.entries.Entry.{Entry}
use Rattle.reg_checkers.specs.History.{IsAt}
use Rattle.reg_judge.specs.declared.acts.Act.{Act}
use Rattle.reg_judge.specs.declared.stages.Mover.{Mover}
use Rattle.reg_judge.specs.declared.stages.Stage.{Stage}
use Rattle.reg_judge.specs.Acts.{Fits, value_after}
use Rattle.reg_judge.specs.Completing.{Completes, IsFree, Running, put}

-- each is of one of the processes that a set can have
abbrev pub AreNarrow : List Mover → Type 0
AreNarrow movers = (i : ℕ) (m : Mover) → IsAt movers i m → m.id.process < 64

-- an operation of the process does no harm
abbrev pub HasHarmless : List Mover → ℕ → Type 0
HasHarmless movers q =
    (i : ℕ) × (m : Mover) × IsAt movers i m × (m.id.process ≡ q) × ((m.act.makes ≡ None) ⊎ (m.free ≡ true))

-- processes are placed besides, whose operations do no harm
abbrev pub Settles : List Mover → (ℕ → ℕ) → ℕ → Type 0
Settles movers placed more = (q : ℕ) → (bit_at more q ≡ placed q) ⊎ ((bit_at more q ≡ 1) × HasHarmless movers q)

-- what an operation makes of a stage: it is placed, with some that do no harm, and the register has its value
abbrev pub IsAfter : List Mover → Stage → Mover → ℕ → ℕ → Type 0
IsAfter movers s m placed value =
    (value ≡ value_after m.act s.value) × Settles movers (put (bit_at s.placed) m.id.process 1) placed

-- the operation may take effect at the stage
abbrev pub MayMove : Stage → Mover → Type 0
MayMove s m = (bit_at s.placed m.id.process ≡ 0) × Fits m.act s.value

-- these stages have one with these processes placed, and this value
abbrev pub HasStage : List Stage → ℕ → ℕ → Type 0
HasStage stages placed value = (j : ℕ) × (s : Stage) × IsAt stages j s × (s.placed ≡ placed) × (s.value ≡ value)

-- each stage stays where it is
abbrev pub Extends : List Stage → List Stage → Type 0
Extends old new = (j : ℕ) (s : Stage) → IsAt old j s → IsAt new j s

-- what an operation makes of a stage is there, where it may take effect
abbrev pub HasAfter : List Mover → Stage → Mover → List Stage → Type 0
HasAfter movers s m stages = MayMove s m → (j : ℕ) × (t : Stage) × IsAt stages j t × IsAfter movers s m t.placed t.value

-- the process is placed at the stage, or all that operations make of it is there
abbrev pub IsDone : List Mover → ℕ → List Stage → Stage → Type 0
IsDone movers p stages s =
    (bit_at s.placed p ≡ 1) ⊎ ((i : ℕ) (m : Mover) → IsAt movers i m → HasAfter movers s m stages)

-- each of the first stages is done
abbrev pub AreDoneTo : ℕ → List Mover → ℕ → List Stage → Type 0
AreDoneTo n movers p stages = (j : ℕ) (s : Stage) → j < n → IsAt stages j s → IsDone movers p stages s

-- each stage is done
abbrev pub AreDone : List Mover → ℕ → List Stage → Type 0
AreDone movers p stages = (j : ℕ) (s : Stage) → IsAt stages j s → IsDone movers p stages s

-- these stages have one that is the stage without the process
abbrev pub HasWithout : ℕ → List Stage → Stage → Type 0
HasWithout p stages s =
    (l : ℕ) × (t : Stage) × IsAt stages l t × (t.value ≡ s.value)
    × ((q : ℕ) → bit_at t.placed q ≡ put (bit_at s.placed) p 0 q)

-- each of the first stages at which the process is placed is kept, and there the process is not placed any more
abbrev pub KeepsTo : ℕ → ℕ → List Stage → List Stage → Type 0
KeepsTo n p old new = (j : ℕ) (s : Stage) → j < n → IsAt old j s → bit_at s.placed p ≡ 1 → HasWithout p new s

-- each stage at which the process is placed is kept so
abbrev pub Keeps : ℕ → List Stage → List Stage → Type 0
Keeps p old new = (j : ℕ) (s : Stage) → IsAt old j s → bit_at s.placed p ≡ 1 → HasWithout p new s

-- the stage stays, but that an operation may be placed
abbrev pub IsRead : ℕ → Stage → Stage → Type 0
IsRead p s t =
    (t.value ≡ s.value) × ((q : ℕ) → (bit_at t.placed q ≡ bit_at s.placed q) ⊎ ((q ≡ p) × (bit_at t.placed q ≡ 1)))

-- each stage stays so
abbrev pub Reads : ℕ → List Stage → List Stage → Type 0
Reads p old new = (j : ℕ) (s : Stage) → IsAt old j s → (t : Stage) × IsAt new j t × IsRead p s t

-- all operations that run on a register, with what is known of them
pub record AreMovers (r : ℕ) (act : OpId → Option Act) (run : Running) (es : List Entry)
    (movers : List Mover) : Type 0 where
  pub all : (p : ℕ) (a : Act) → run p ≡ Some a → a.register ≡ r
      → (i : ℕ) × (m : Mover) × IsAt movers i m × (m.id.process ≡ p) × (m.act ≡ a)
  pub each : (i : ℕ) (m : Mover) → IsAt movers i m → (run m.id.process ≡ Some m.act) × (m.act.register ≡ r)
  pub free : (i : ℕ) (m : Mover) → IsAt movers i m → m.free ≡ true → IsFree r act run es m.act

-- some stage goes on through these entries
abbrev pub IsAlive : ℕ → (OpId → Option Act) → Running → List Entry → List Stage → Type 0
IsAlive r act run es stages =
    (n : ℕ) × (j : ℕ) × (s : Stage) × IsAt stages j s × Completes r act n run (bit_at s.placed) s.value es

-- each of the first of these stages is among those
abbrev pub HasEachTo : ℕ → List Stage → List Stage → Type 0
HasEachTo n stages these = (j : ℕ) (s : Stage) → j < n → IsAt these j s → HasStage stages s.placed s.value

-- each of these stages is among those
abbrev pub HasEach : List Stage → List Stage → Type 0
HasEach stages these = (j : ℕ) (s : Stage) → IsAt these j s → HasStage stages s.placed s.value

-- the stages after an answer: among stages with the old ones, all done, those at which the process is placed
pub record IsClosed (movers : List Mover) (p : ℕ) (old new : List Stage) : Type 0 where
  pub stages : List Stage
  pub each : HasEach stages old
  pub done : AreDone movers p stages
  pub kept : Keeps p stages new

-- what each of the first operations makes of a stage is there
abbrev pub HasAfterTo : ℕ → List Mover → Stage → List Stage → Type 0
HasAfterTo n movers s stages = (i : ℕ) (m : Mover) → i < n → IsAt movers i m → HasAfter movers s m stages
