-- Which play of a workload is made, and the workload with another seed.
use Rattle.std.specs.Prelude.{ℕ, ◌≤◌, Bool, true, false, Option, None, IfSome, unwrap_or}
use Rattle.reg_base.specs.declared.limits.TheConstants.{LAST_SEED}
use Rattle.reg_inputs.specs.Loads.{Load}
use Rattle.reg_show.specs.declared.players.Player.{Player}
use Rattle.reg_show.specs.declared.players.Player.TheVariants.{Fair, Seeded}

-- whether the player is the fair one
abbrev pub is_fair : Player → Bool
is_fair Fair = true
is_fair (Seeded seed) = false

-- the seed in place of the workload's, where the player has one
abbrev pub seed_of : Player → Option ℕ
seed_of Fair = None
seed_of (Seeded seed) = seed

-- where there is a seed, a workload can have it
abbrev pub IsSeed : Option ℕ → Type 0
IsSeed seed = IfSome seed (λ n. n ≤ LAST_SEED)

-- the workload with this seed in place of its own, where there is one
abbrev pub reseeded : Option ℕ → Load → Load
reseeded seed work = record work { seed = unwrap_or seed work.seed }
