-- What stands of an entry of EDN, and of the text around it. To be believed: promises speak of it. An entry is kept in
-- JSON: its map is an object, a vector or a list is an array, and a nested map or a set is an object with one member,
-- the array of its forms.
use Rattle.std.specs.Prelude.{ℕ, ◌-◌, ◌==◌, ◌&&◌, Bool, true, false, not, nat_lt, List, [], ◌∷◌, ◌++◌, length, take}
use Rattle.std.specs.Prelude.{slice_get, Option, Some, None, Result, Ok, Err, codes, if◌then◌else◌}
use Rattle.reg_observed.specs.declared.edn_bytes.Bracket.{Bracket}
use Rattle.reg_observed.specs.declared.edn_bytes.Bracket.TheVariants.{Round, Square, Curly, Set}
use Rattle.reg_observed.specs.declared.edn_entries.Listing.{Listing}
use Rattle.reg_observed.specs.declared.edn_entries.Listing.TheVariants.{Fresh, Bare, Listed, Closed}
use Rattle.reg_observed.specs.declared.edn_entries.TheConstants.{MOST_OPEN}
use Rattle.reg_observed.specs.declared.faults.Why.{Why}
use Rattle.reg_observed.specs.declared.faults.Why.TheVariants.{BadBracket, BadEntry, TooDeep}

pub record Drafted : Type 0 where
  -- where entries stand: each by itself, or all in one vector
  pub listing : Listing
  -- an entry is being read
  pub inside : Bool
  -- the brackets that are open in it, the innermost last
  pub brackets : List Bracket
  -- a key of the entry stands without its value
  pub named : Bool
  -- nothing stands behind the last bracket that was opened
  pub fresh : Bool
  -- the entry in JSON, as far as it was read
  pub json : List ℕ

abbrev pub nothing_read : Drafted
nothing_read = record { listing = Fresh; inside = false; brackets = []; named = false; fresh = true; json = [] }

abbrev pub closes : Bracket → Bracket → Bool
closes Round Round = true
closes Square Square = true
closes Curly Curly = true
closes Curly Set = true
closes _ _ = false

-- what stands in JSON before the next form: nothing at the first, : at the value of a key, and else a comma
abbrev pub separator : Drafted → List ℕ
separator d = if d.fresh then [] else if d.named && length d.brackets == 0 then codes ":" else codes ","

-- a form of the entry itself is a key, or the value of the key before it
abbrev pub named_next : ℕ → Bool → Bool
named_next depth named = if depth == 0 then not named else named

-- one more form, which has this text in JSON
abbrev pub form_in : List ℕ → Drafted → Result Drafted Why
form_in text d =
    if d.inside then Ok
    (record d {
      named = named_next (length d.brackets) d.named;
      fresh = false;
      json = (d.json ++ separator d) ++ text;
    }) else
    Err BadEntry

-- an entry begins
abbrev pub begun : Listing → Drafted
begun listing =
    record { listing = listing; inside = true; brackets = []; named = false; fresh = true; json = codes "{" }

-- how a form between brackets begins in JSON, and how it ends
abbrev pub opening : Bracket → List ℕ
opening Round = codes "["
opening Square = codes "["
opening Curly = 123 ∷ 34 ∷ 34 ∷ 58 ∷ 91 ∷ []
opening Set = 123 ∷ 34 ∷ 34 ∷ 58 ∷ 91 ∷ []

abbrev pub closing : Bracket → List ℕ
closing Round = codes "]"
closing Square = codes "]"
closing Curly = codes "]}"
closing Set = codes "]}"

abbrev pub open_inside : Bracket → Drafted → Result Drafted Why
open_inside bracket d =
    if nat_lt (length d.brackets) MOST_OPEN then Ok
    (record d {
      brackets = d.brackets ++ bracket ∷ [];
      fresh = true;
      json = (d.json ++ separator d) ++ opening bracket;
    }) else
    Err TooDeep

-- outside of entries { begins one, and a first [ the vector in which they stand
abbrev pub open_outside : Bracket → Listing → Drafted → Result Drafted Why
open_outside Curly Fresh d = Ok (begun Bare)
open_outside Curly Bare d = Ok (begun Bare)
open_outside Curly Listed d = Ok (begun Listed)
open_outside Square Fresh d = Ok (record d { listing = Listed })
open_outside _ _ d = Err BadEntry

abbrev pub open_in : Bracket → Drafted → Result Drafted Why
open_in bracket d = if d.inside then open_inside bracket d else open_outside bracket d.listing d

abbrev pub close_last : Bracket → Bracket → Drafted → Result Drafted Why
close_last close opened d =
    if closes close opened then Ok
    (record d {
      brackets = take (length d.brackets - 1) d.brackets;
      named = named_next (length d.brackets - 1) d.named;
      fresh = false;
      json = d.json ++ closing opened;
    }) else
    Err BadBracket

abbrev pub end_entry : Bracket → Drafted → Result Drafted Why
end_entry Curly d = Ok (record d { inside = false; json = d.json ++ codes "}" })
end_entry _ d = Err BadBracket

abbrev pub close_inside : Bracket → Option Bracket → Drafted → Result Drafted Why
close_inside close (Some opened) d = close_last close opened d
close_inside close None d = end_entry close d

abbrev pub close_outside : Bracket → Listing → Drafted → Result Drafted Why
close_outside Square Listed d = Ok (record d { listing = Closed })
close_outside _ _ d = Err BadBracket

-- a bracket closes the innermost one of the entry, or where none is open the entry, or outside of entries their vector
abbrev pub close_in : Bracket → Drafted → Result Drafted Why
close_in close d =
    if d.inside then close_inside close (slice_get d.brackets (length d.brackets - 1)) d else close_outside close
    d.listing d
