-- The keys of a workload, as they are written.
use Rattle.std.specs.Prelude.{ℕ, List, Bool, true, ◌&&◌, ◌||◌, codes}
use Rattle.std.specs.Str.{bytes_eq}
use Rattle.toml.specs.Data.{Members, no_members, member}
use Rattle.reg_inputs.specs.declared.keys.Key.{Key}
use Rattle.reg_inputs.specs.declared.keys.Key.TheVariants.{Front, Registers, Scripts, Seed, Loss, Repeat, Budget}

abbrev pub key_name : Key → List ℕ
key_name Front = codes "front"
key_name Registers = codes "registers"
key_name Scripts = codes "scripts"
key_name Seed = codes "seed"
key_name Loss = codes "loss"
key_name Repeat = codes "repeat"
key_name Budget = codes "budget"

-- one of the keys of a workload, as it is written
abbrev pub is_key : List ℕ → Bool
is_key name =
    bytes_eq name (codes "front") ||
    (bytes_eq name (codes "registers") ||
    (bytes_eq name (codes "scripts") ||
    (bytes_eq name (codes "seed") ||
    (bytes_eq name (codes "loss") || (bytes_eq name (codes "repeat") || bytes_eq name (codes "budget"))))))

-- all keys of a table are keys of a workload
abbrev pub all_known : Members → Bool
all_known no_members = true
all_known (member name d ms) = is_key name && all_known ms
