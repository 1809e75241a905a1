-- What the comments of a schedule say.
use Rattle.std.specs.Prelude.{ℕ, ◌==◌, List, [], ◌∷◌, ◌++◌, drop, get_or, if◌then◌else◌}
use Rattle.reg_text.specs.Lines.{is_kept, lines_of}

-- a text without the space that it may begin with
abbrev pub past_space : List ℕ → List ℕ
past_space [] = []
past_space (b ∷ bytes) = if b == 32 then bytes else b ∷ bytes

-- what a comment says: its line after the # and one space; another line says nothing
abbrev pub comment_of : List ℕ → List ℕ
comment_of [] = []
comment_of (b ∷ bytes) = if b == 35 then past_space bytes else []

-- one text and then another, with a space between them where neither is empty
abbrev pub spaced : List ℕ → List ℕ → List ℕ
spaced [] second = second
spaced (b ∷ first) [] = b ∷ first
spaced (b ∷ first) (c ∷ second) = (b ∷ first) ++ 32 ∷ c ∷ second

-- a comment's words before those of the first note; where there is no note, they belong to none
abbrev pub above_first : List ℕ → List (List ℕ) → List (List ℕ)
above_first words [] = []
above_first words (note ∷ notes) = spaced words note ∷ notes

-- For each line that is kept its note: what the comments say that stand directly above it, which is after the kept line
-- before it.
unfoldable pub notes_above : List (List ℕ) → List (List ℕ)
notes_above [] = []
notes_above (line ∷ lines) =
    if is_kept line then [] ∷ notes_above lines else above_first (comment_of line) (notes_above lines)

-- the comments of a schedule: its title, and a note for each event
pub record Notes : Type 0 where
  pub title : List ℕ
  pub notes : List (List ℕ)

-- the first note is the title; those of the events come after the three of the head
abbrev pub notes_from : List (List ℕ) → Notes
notes_from above = record { title = get_or above 0 []; notes = drop 3 above }

-- what the comments of a schedule's text say
abbrev pub notes_of : List ℕ → Notes
notes_of text = notes_from (notes_above (lines_of text))

-- this title, and no note of any event
abbrev pub titled : List ℕ → Notes
titled title = record { title = title; notes = [] }

-- no title, and no note of any event
abbrev pub no_notes : Notes
no_notes = titled []
