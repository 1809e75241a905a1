-- What an entry of EDN tells. To be believed: promises speak of it.
use Rattle.std.specs.Prelude.{ℕ, ◌&&◌, ◌||◌, Bool, not, List, codes, Option, Some, None, is_some, is_ok}
use Rattle.std.specs.Prelude.{option_and_then, Result, Ok, Err, if◌then◌else◌}
use Rattle.std.specs.Str.{is_utf8}
use Rattle.serde_json.specs.Data.{Data, Items, no_items, item}
use Rattle.serde_json.specs.Read.{read}
use Rattle.serde_json.specs.Find.{get, as_array}
use Rattle.reg_observed.specs.declared.faults.Why.{Why}
use Rattle.reg_observed.specs.declared.faults.Why.TheVariants.{BadEntry}
use Rattle.reg_observed.specs.Told.{Telling, ◌>>=◌}
use Rattle.reg_observed.specs.JsonLines.{act_in, is_named, is_nemesis, string_in, told_at, told_in}

-- two elements
abbrev pub two_of : Items → Option (Data × Data)
two_of (item first (item second no_items)) = Some (first, second)
two_of items = None

abbrev pub two_in : Data → Option (Data × Data)
two_in d = option_and_then two_of (as_array d)

-- of a compare-and-swap only [KEY [EXPECTED NEW]] is keyed, and [EXPECTED NEW] isn't
abbrev pub unless_values : Bool → Option (Data × Data) → Option (Data × Data)
unless_values swaps None = None
unless_values swaps (Some pair) = if swaps && not (is_some (as_array pair.1)) then None else Some pair

-- The key and the value, where the value of an entry with no key is [KEY VALUE], as Jepsen writes independent keys.
abbrev pub keyed_in : Data → Option (Data × Data)
keyed_in d =
    if is_some (get (codes "key") d) then None else unless_values (is_named (codes "f") (codes "cas") d)
    (option_and_then two_in (get (codes "value") d))

abbrev pub told_keyed : Option (Data × Data) → Data → Result Telling Why
told_keyed None d = told_in d
told_keyed (Some pair) d = told_at (Some pair.0) (Some pair.1) d

-- a process whose name is no number notes a thing that is no operation
abbrev pub is_note : Data → Bool
is_note d =
    is_some (string_in (codes "process") d) && (is_named (codes "type") (codes "info") d && not (is_ok (act_in d)))

-- What is no call: what Jepsen's nemesis does, and such notes.
abbrev pub is_aside : Data → Bool
is_aside d = is_nemesis d || is_note d

-- what the entry tells, and nothing where it is of no call
unfoldable pub entry_in : Data → Result (Option Telling) Why
entry_in d = if is_aside d then Ok None else (told_keyed (keyed_in d) d >>= λ t. Ok (Some t))

abbrev pub entry_of : Option Data → Result (Option Telling) Why
entry_of None = Err BadEntry
entry_of (Some d) = entry_in d

-- what an entry tells that has this text in JSON
unfoldable pub entry_says : List ℕ → Result (Option Telling) Why
entry_says json = entry_of (if is_utf8 json then read json else None)
