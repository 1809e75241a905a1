-- Command lines with subcommands that take no word, or the flag `--fair`, and what clap's parse reads of them.
use Rattle.std.specs.Prelude.{◌==◌, Bool, true, false, List, [], ◌∷◌, drop, map, codes, Option, Some, None}
use Rattle.std.specs.Prelude.{option_map, String, string_bytes, if◌then◌else◌}
use Rattle.std.specs.Borrow.{Bor}
use Rattle.std.specs.Str.{bytes_eq}
pub use Rattle.clap.specs.Words.{Text}
use Rattle.clap.specs.Words.{App, Row, Rule, new_app, new_rule, one_of, with_rule}
use Rattle.clap.specs.declared.builder.ArgAction.TheVariants.{SetTrue}

-- the words after the program's name
abbrev pub behind_name : {A : Type 0} → List (String A) → List Text
behind_name words = drop 1 (map string_bytes words)

-- the words of a subcommand, and of the flag where it is passed
abbrev pub named_line : Text → Bool → List Text
named_line name fair = name ∷ (if fair then codes "--fair" ∷ [] else [])

abbrev pub is_dashes : Text → Bool
is_dashes word = bytes_eq word (codes "--")

-- the word begins with a hyphen
abbrev pub is_flag : Text → Bool
is_flag [] = false
is_flag (x ∷ xs) = x == 45

-- the flag `--fair`
abbrev pub fair_rule : Rule
fair_rule = record (new_rule (codes "fair")) { long = Some (codes "fair"); action = Some SetTrue }

-- a subcommand with the flag `--fair`
abbrev pub fair_app : Text → App
fair_app name = with_rule (new_app name) fair_rule

abbrev pub truth_of : Text → Option Bool
truth_of text =
    if bytes_eq text (codes "true") then Some true else if bytes_eq text (codes "false") then Some false else None

-- whether the flag was passed, by its value
abbrev pub flag_of : Option Text → Option Bool
flag_of None = Some false
flag_of (Some text) = truth_of text

-- the name of the subcommand that was met, and whether it has the flag
abbrev pub met_of : Option (Text × List Row) → Option (Text × Option Bool)
met_of = option_map (λ p. (p.0, flag_of (one_of (codes "fair") p.1)))

-- the name of the subcommand and its flag, as they are returned
abbrev pub seen : Option (Bor Text × Bool) → Option (Text × Bool)
seen None = None
seen (Some p) = Some (p.0.now, p.1)
