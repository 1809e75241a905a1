-- What a line of JSON tells. To be believed: promises speak of it.
use Rattle.std.specs.Prelude.{ℕ, ◌||◌, [], ◌∷◌, Bool, false, List, String, codes, string_bytes, Option, Some, None}
use Rattle.std.specs.Prelude.{is_some, option_and_then, Result, Ok, Err, if◌then◌else◌}
use Rattle.std.specs.declared.alloc.Global.{Global}
use Rattle.std.specs.Str.{bytes_eq, is_utf8}
use Rattle.serde_json.specs.Data.{Data, Items, no_items, item}
use Rattle.serde_json.specs.Read.{read}
use Rattle.serde_json.specs.Find.{get, as_array, as_null, as_number, as_str, as_u64, as_i64}
use Rattle.serde_json.specs.Written.{compact_text}
use Rattle.reg_observed.specs.declared.events.Moment.{Moment}
use Rattle.reg_judge.specs.declared.rulings.rows.Act.{Act}
use Rattle.reg_observed.specs.declared.faults.Why.{Why}
use Rattle.reg_observed.specs.declared.faults.Why.TheVariants.{Form, BadProcess, BadType, BadFunction, BadKey, BadValue}
use Rattle.reg_observed.specs.declared.faults.Why.TheVariants.{BadPair, BadFirst}
use Rattle.reg_observed.specs.Told.{Telling, is_compare_and_swap, moment_named, moment_of, act_named, with_value, ◌>>=◌}

-- a string, or an integer of 64 bits
abbrev pub is_word : Data → Bool
is_word d =
    is_some (as_str d) || is_some (option_and_then as_u64 (as_number d)) || is_some
    (option_and_then as_i64 (as_number d))

-- the text of the value, if it is a word
abbrev pub word_of : Why → Option Data → Result (List ℕ) Why
word_of why None = Err why
word_of why (Some d) = if is_word d then Ok (compact_text d) else Err why

-- the text of a value, which is a word or null, or null where there is none
abbrev pub word_or_null_of : Why → Option Data → Result (List ℕ) Why
word_or_null_of why None = Ok (codes "null")
word_or_null_of why (Some d) = if is_some (as_null d) || is_word d then Ok (compact_text d) else Err why

-- the text of the value that a text is, which is a word or null
abbrev pub value_or_none : Option Data → Result (List ℕ) Why
value_or_none None = Err BadFirst
value_or_none (Some d) = word_or_null_of BadFirst (Some d)

abbrev pub value_said : List ℕ → Result (List ℕ) Why
value_said text = value_or_none (read text)

abbrev pub word_in : List ℕ → Why → Data → Result (List ℕ) Why
word_in name why d = word_of why (get name d)

-- the string of this name
abbrev pub string_in : List ℕ → Data → Option (List ℕ)
string_in name d = option_and_then as_str (get name d)

abbrev pub is_text : List ℕ → Option (List ℕ) → Bool
is_text text None = false
is_text text (Some said) = bytes_eq said text

abbrev pub is_named : List ℕ → List ℕ → Data → Bool
is_named name text d = is_text text (string_in name d)

abbrev pub moment_or : Option Moment → Result Moment Why
moment_or None = Err BadType
moment_or (Some moment) = Ok moment

abbrev pub moment_in : Data → Result Moment Why
moment_in d = moment_or (option_and_then moment_named (string_in (codes "type") d))

abbrev pub act_or : Option (List ℕ) → Result Act Why
act_or None = Err BadFunction
act_or (Some name) = act_named name

abbrev pub act_in : Data → Result Act Why
act_in d = act_or (string_in (codes "f") d)

-- two strings by their bytes
abbrev pub both_texts : String Global × String Global → List ℕ × List ℕ
both_texts pair = (string_bytes pair.0, string_bytes pair.1)

-- the texts of two values, each a word or null
abbrev pub pair_of : Data → Data → Result (List ℕ × List ℕ) Why
pair_of first second = do
  expected ← word_or_null_of BadPair (Some first)
  value ← word_or_null_of BadPair (Some second)
  Ok (expected, value)

abbrev pub items_pair : Items → Result (List ℕ × List ℕ) Why
items_pair (item first (item second no_items)) = pair_of first second
items_pair items = Err BadPair

abbrev pub array_pair : Option Items → Result (List ℕ × List ℕ) Why
array_pair None = Err BadPair
array_pair (Some items) = items_pair items

-- the expected and the new value of a compare-and-swap: an array of two, or null or nothing, which is two of null
abbrev pub value_pair : Option Data → Result (List ℕ × List ℕ) Why
value_pair None = Ok (codes "null", codes "null")
value_pair (Some d) = if is_some (as_null d) then Ok (codes "null", codes "null") else array_pair (as_array d)

-- the value of another call: nothing is expected
abbrev pub one_value : Option Data → Result (List ℕ × List ℕ) Why
one_value value = word_or_null_of BadValue value >>= λ word. Ok (codes "null", word)

abbrev pub values_of : Act → Option Data → Result (List ℕ × List ℕ) Why
values_of act value = if is_compare_and_swap act then value_pair value else one_value value

-- it is said that the register had another value than the expected one
abbrev pub says_unequal : Data → Bool
says_unequal d = is_named (codes "error") (codes "unequal") d

-- what Jepsen's nemesis does is no call
abbrev pub is_nemesis : Data → Bool
is_nemesis d = is_named (codes "process") (codes "nemesis") d

-- the event that the value tells of, with this key and this value
unfoldable pub told_at : Option Data → Option Data → Data → Result Telling Why
told_at key value d = do
  process ← word_in (codes "process") BadProcess d
  moment ← moment_in d
  act ← act_in d
  key ← word_or_null_of BadKey key
  values ← values_of act value
  with_value (record {
    process = process;
    moment = moment_of moment act (says_unequal d);
    act = act;
    key = key;
    expected = values.0;
    value = values.1;
  })

-- the event that the value tells of
abbrev pub told_in : Data → Result Telling Why
told_in d = told_at (get (codes "key") d) (get (codes "value") d) d

-- what the value tells, and nothing where it is of no call
unfoldable pub call_in : Data → Result (Option Telling) Why
call_in d = if is_nemesis d then Ok None else (told_in d >>= λ t. Ok (Some t))

abbrev pub data_says : Option Data → Result (Option Telling) Why
data_says None = Err Form
data_says (Some d) = call_in d

-- what a line tells, and nothing where it is empty or of no call
unfoldable pub line_says : List ℕ → Result (Option Telling) Why
line_says [] = Ok None
line_says (b ∷ bytes) = data_says (if is_utf8 (b ∷ bytes) then read (b ∷ bytes) else None)
