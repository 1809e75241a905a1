-- What each byte of a text of EDN does, by where it stands. To be believed: promises speak of it.
use Rattle.std.specs.Prelude.{ℕ, ◌==◌, ◌||◌, true, false, nat_lt, if◌then◌else◌}
use Rattle.reg_observed.specs.declared.edn_bytes.Bracket.TheVariants.{Round, Square, Curly, Set}
use Rattle.reg_observed.specs.declared.edn_bytes.Sort.{Sort}
use Rattle.reg_observed.specs.declared.edn_bytes.Sort.TheVariants as sorts
use Rattle.reg_observed.specs.declared.edn_bytes.Mode.{Mode}
use Rattle.reg_observed.specs.declared.edn_bytes.Mode.TheVariants.{Between, Comment, Dispatch, Tag, Character, Word}
use Rattle.reg_observed.specs.declared.edn_bytes.Mode.TheVariants.{Quoted, Escaped}
use Rattle.reg_observed.specs.declared.edn_bytes.Does.{Does}
use Rattle.reg_observed.specs.declared.edn_bytes.Does.TheVariants.{Nothing, Keep, Code, EndString, Open, Close, Refuse}
use Rattle.reg_observed.specs.declared.edn_bytes.Turn.{Turn}

-- what a byte is outside of strings and comments: ( [ { ) ] } " ; # and \ are what they are, blanks, control characters
-- and commas are blanks, and all others are parts of words
abbrev pub sort_of : ℕ → Sort
sort_of b =
    if nat_lt b 33 || b == 44 then sorts.Blank else
    if b == 40 then sorts.Open Round else
    if b == 91 then sorts.Open Square else
    if b == 123 then sorts.Open Curly else
    if b == 41 then sorts.Close Round else
    if b == 93 then sorts.Close Square else
    if b == 125 then sorts.Close Curly else
    if b == 34 then sorts.Quote else
    if b == 59 then sorts.Semicolon else
    if b == 35 then sorts.Hash else
    if b == 92 then sorts.Backslash else sorts.Other

abbrev pub turn : Does → Mode → Turn
turn does next = record { ends_word = false; does = does; next = next }

-- between forms
abbrev pub between : Sort → Turn
between sorts.Blank = turn Nothing Between
between (sorts.Open bracket) = turn (Open bracket) Between
between (sorts.Close bracket) = turn (Close bracket) Between
between sorts.Quote = turn Nothing Quoted
between sorts.Semicolon = turn Nothing Comment
between sorts.Hash = turn Nothing Dispatch
between sorts.Backslash = turn Keep Character
between sorts.Other = turn Keep Word

-- Behind a #: a set begins with #{, ## is a part of a word, and else a tag has a name. #_ is not read.
abbrev pub behind_hash : ℕ → Sort → Turn
behind_hash b sorts.Blank = turn Refuse Between
behind_hash b (sorts.Open Round) = turn Refuse Between
behind_hash b (sorts.Open Square) = turn Refuse Between
behind_hash b (sorts.Open Curly) = turn (Open Set) Between
behind_hash b (sorts.Open Set) = turn Refuse Between
behind_hash b (sorts.Close bracket) = turn Refuse Between
behind_hash b sorts.Quote = turn Refuse Between
behind_hash b sorts.Semicolon = turn Refuse Between
behind_hash b sorts.Hash = turn Keep Word
behind_hash b sorts.Backslash = turn Refuse Between
behind_hash b sorts.Other = if b == 95 then turn Refuse Between else turn Nothing Tag

-- in a tag, which is passed over: it ends where a word would
abbrev pub in_tag : Sort → Turn
in_tag sorts.Blank = between sorts.Blank
in_tag (sorts.Open bracket) = between (sorts.Open bracket)
in_tag (sorts.Close bracket) = between (sorts.Close bracket)
in_tag sorts.Quote = between sorts.Quote
in_tag sorts.Semicolon = between sorts.Semicolon
in_tag sorts.Hash = turn Nothing Tag
in_tag sorts.Backslash = turn Nothing Tag
in_tag sorts.Other = turn Nothing Tag

abbrev pub behind_word : Turn → Turn
behind_word t = record { ends_word = true; does = t.does; next = t.next }

-- in a word
abbrev pub in_word : Sort → Turn
in_word sorts.Blank = behind_word (between sorts.Blank)
in_word (sorts.Open bracket) = behind_word (between (sorts.Open bracket))
in_word (sorts.Close bracket) = behind_word (between (sorts.Close bracket))
in_word sorts.Quote = behind_word (between sorts.Quote)
in_word sorts.Semicolon = behind_word (between sorts.Semicolon)
in_word sorts.Hash = turn Keep Word
in_word sorts.Backslash = turn Refuse Word
in_word sorts.Other = turn Keep Word

-- in a string: it ends at a ", a \ begins an escape, and a control character stands for itself
abbrev pub in_string : ℕ → Turn
in_string b =
    if b == 34 then turn EndString Between else
    if b == 92 then turn Keep Escaped else
    if nat_lt b 32 then turn Code Quoted else turn Keep Quoted

-- what comes of a byte that stands there
abbrev pub turn_at : Mode → ℕ → Turn
turn_at Between b = between (sort_of b)
turn_at Comment b = if b == 10 then turn Nothing Between else turn Nothing Comment
turn_at Dispatch b = behind_hash b (sort_of b)
turn_at Tag b = in_tag (sort_of b)
turn_at Character b = turn Keep Word
turn_at Word b = in_word (sort_of b)
turn_at Quoted b = in_string b
turn_at Escaped b = turn Keep Quoted
