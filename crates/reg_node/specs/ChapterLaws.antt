-- What processes tell of themselves in a run, at whatever times. Promises cite it.
use Rattle.std.specs.Prelude.{ℕ, ◌≡◌, ◌<◌, ◌≤◌, Bool, List, length, take, slice_get, Some}
use Rattle.reg_base.specs.declared.memory.Op.{Op}
use Rattle.reg_front.specs.declared.starts.Start.{Start}
use Rattle.reg_process.specs.declared.events.Event.{Event}
use Rattle.reg_process.specs.declared.events.Event.TheVariants.{Call}
use Rattle.reg_world.specs.World.{whole}
use Rattle.reg_node.specs.Chapters.{IsStanding, Standing, Tale}

-- The process told how far it had come after the first so many events of the run.
pub record ToldAfter (start : Op → ℕ → Start) (n registers : ℕ) (events : List Event) (told : Tale)
    (p time : ℕ) : Type 0 where
  pub is_quiet : Bool
  pub standing : Standing
  pub there : slice_get told p ≡ Some (Some standing)
  pub is : IsStanding ((whole start n registers (take time events)).nodes p).state is_quiet standing

-- Each process told it, at a time of its own, and makes no call from then on.
pub record AreTold (start : Op → ℕ → Start) (n registers : ℕ) (events : List Event) (time : ℕ → ℕ)
    (told : Tale) : Type 0 where
  pub size : length told ≡ n
  pub each : (p : ℕ) → p < n → ToldAfter start n registers events told p (time p)
  pub silent : (p at : ℕ) (op : Op) → p < n → time p ≤ at → slice_get events at ≡ Some (Call p op) → ⊥
