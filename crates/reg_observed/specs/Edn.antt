-- What a text of EDN tells. To be believed: promises speak of it.
use Rattle.std.specs.Prelude.{ℕ, ◌+◌, ◌==◌, ◌&&◌, ◌||◌, Bool, true, false, not, List, [], ◌∷◌, ◌++◌, codes, drop, min}
use Rattle.std.specs.Prelude.{nat_eq, nat_lt, Option, None, Result, Ok, Err, if◌then◌else◌}
use Rattle.std.specs.List.{starts_with}
use Rattle.reg_observed.specs.declared.edn_bytes.Mode.{Mode}
use Rattle.reg_observed.specs.declared.edn_bytes.Mode.TheVariants.{Between, Comment}
use Rattle.reg_observed.specs.declared.edn_bytes.Does.{Does}
use Rattle.reg_observed.specs.declared.edn_bytes.Does.TheVariants.{Nothing, Keep, Code, EndString, Open, Close, Refuse}
use Rattle.reg_observed.specs.declared.edn_bytes.Turn.{Turn}
use Rattle.reg_observed.specs.declared.edn_entries.Listing.{Listing}
use Rattle.reg_observed.specs.declared.edn_entries.Listing.TheVariants.{Listed}
use Rattle.reg_observed.specs.declared.faults.Why.{Why}
use Rattle.reg_observed.specs.declared.faults.Why.TheVariants.{BadForm, Unfinished}
use Rattle.reg_observed.specs.EdnBytes.{turn_at}
use Rattle.reg_observed.specs.EdnEntries.{Drafted, close_in, form_in, nothing_read, open_in}
use Rattle.reg_observed.specs.EdnSays.{entry_says}
use Rattle.reg_observed.specs.EdnWords.{json_byte, json_text, json_word}
use Rattle.reg_observed.specs.Told.{Telling, ◌>>=◌}
use Rattle.reg_observed.specs.Reading.{Tellings, after_line}

-- where a reader stands: where the next byte does, the word or string that is being read, and what stands of the entry
pub record Scanned : Type 0 where
  pub mode : Mode
  pub word : List ℕ
  pub draft : Drafted

abbrev pub at_start : Scanned
at_start = record { mode = Between; word = []; draft = nothing_read }

-- the word or string is a form, which has this text in JSON
abbrev pub word_in : List ℕ → Scanned → Result Scanned Why
word_in text s = form_in text s.draft >>= λ d. Ok (record { mode = s.mode; word = []; draft = d })

abbrev pub end_word : Bool → Scanned → Result Scanned Why
end_word true s = word_in (json_word s.word) s
end_word false s = Ok s

abbrev pub with_draft : Scanned → Result Drafted Why → Result Scanned Why
with_draft s drafted = drafted >>= λ d. Ok (record { mode = s.mode; word = s.word; draft = d })

abbrev pub byte_does : Does → ℕ → Scanned → Result Scanned Why
byte_does Nothing b s = Ok s
byte_does Keep b s = Ok (record { mode = s.mode; word = s.word ++ b ∷ []; draft = s.draft })
byte_does Code b s = Ok (record { mode = s.mode; word = json_byte s.word b; draft = s.draft })
byte_does EndString b s = word_in (json_text s.word) s
byte_does (Open bracket) b s = with_draft s (open_in bracket s.draft)
byte_does (Close bracket) b s = with_draft s (close_in bracket s.draft)
byte_does Refuse b s = Err BadForm

abbrev pub by_turn : Turn → ℕ → Scanned → Result Scanned Why
by_turn t b s = do
  behind ← end_word t.ends_word s
  done ← byte_does t.does b behind
  Ok (record { mode = t.next; word = done.word; draft = done.draft })

-- one more byte
unfoldable pub byte_in : ℕ → Scanned → Result Scanned Why
byte_in b s = by_turn (turn_at s.mode b) b s

-- what is told by one more byte: it may end an entry
abbrev pub told_by : Scanned → Result Scanned Why → Result (Option Telling) Why
told_by old (Err why) = Err why
told_by old (Ok new) = if old.draft.inside && not new.draft.inside then entry_says new.draft.json else Ok None

abbrev pub behind : Scanned → Result Scanned Why → Scanned
behind old (Err why) = old
behind old (Ok new) = new

-- the number of the line on which the next byte stands, at most 2^32 - 1
abbrev pub line_behind : ℕ → ℕ → ℕ
line_behind line b = if b == 10 then min (line + 1) 4294967295 else line

abbrev pub is_rest : Mode → Bool
is_rest Between = true
is_rest Comment = true
is_rest _ = false

abbrev pub is_listed : Listing → Bool
is_listed Listed = true
is_listed _ = false

-- nothing is begun that has no end
abbrev pub is_whole : Scanned → Bool
is_whole s = is_rest s.mode && (not s.draft.inside && not (is_listed s.draft.listing))

-- what these bytes tell, the first of which stands on the line of this number
unfoldable pub edn_from : ℕ → Scanned → List ℕ → Tellings
edn_from line s [] = if is_whole s then Ok [] else Err (line, Unfinished)
edn_from line s (b ∷ bytes) =
    after_line line (told_by s (byte_in b s)) (edn_from (line_behind line b) (behind s (byte_in b s)) bytes)

abbrev pub edn_tells : List ℕ → Tellings
edn_tells text = edn_from 1 at_start text

abbrev pub is_blank : ℕ → Bool
is_blank b = nat_lt b 33 || b == 44

unfoldable pub behind_blanks : List ℕ → List ℕ
behind_blanks [] = []
behind_blanks (b ∷ bytes) = if is_blank b then behind_blanks bytes else b ∷ bytes

abbrev pub begins_form : List ℕ → Bool
begins_form text =
    starts_with nat_eq text (codes "[") || (starts_with nat_eq text (codes "#") || (starts_with nat_eq text (codes ";")
    || (starts_with nat_eq text (codes "{") && starts_with nat_eq (behind_blanks (drop 1 text)) (codes ":"))))

-- A text is EDN whose first byte that is no blank is [ or # or ;, or { and then :, blanks aside.
abbrev pub begins_edn : List ℕ → Bool
begins_edn text = begins_form (behind_blanks text)
