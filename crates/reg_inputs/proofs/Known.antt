-- The keys of a table are the names of its members.
use Rattle.std.proofs.Common.{◌≡◌, List, [], ◌∷◌, ◌&&◌, map, refl, ap, String, string_bytes}
use Rattle.std.specs.List.{list_all}
use Rattle.std.specs.declared.alloc.Global.{Global}
use Rattle.toml.specs.declared.value.Value.{Value}
use Rattle.toml.specs.View.{members_view}
use Rattle.reg_inputs.specs.Keys.{is_key, all_known}

pub known_keys : (es : List (String Global × Value))
    → list_all (λ k. is_key (string_bytes k)) (map (λ e. e.0) es) ≡ all_known (members_view es)
known_keys [] = refl
known_keys (e ∷ es) = ap (λ b. is_key (string_bytes e.0) && b) (known_keys es)
