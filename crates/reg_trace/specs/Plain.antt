-- Texts that end no element of a page, and the escapes in them.
use Rattle.std.specs.Prelude.{ℕ, ◌≡◌, ◌⊎◌, Bool, true, ◌&&◌, ◌||◌, ◌==◌, not, nat_le, List, [], ◌∷◌, flat_map}
use Rattle.std.specs.List.{All, list_all}
use Rattle.reg_trace.specs.Strings.{escape_of}

-- a line feed, or a printable character of ASCII that is none of <, > and &
abbrev pub is_plain : ℕ → Bool
is_plain c = (c == 10) || (nat_le 32 c && (nat_le c 126 && (not (c == 60) && (not (c == 62) && not (c == 38)))))

-- a plain character other than a backslash, or the escape of a unit
abbrev pub IsPiece : List ℕ → Type 0
IsPiece piece =
    ((c : ℕ) × (is_plain c ≡ true) × (not (c == 92) ≡ true) × (piece ≡ c ∷ [])) ⊎ ((u : ℕ) × (piece ≡ escape_of u))

-- All characters of the text are plain, and it is put together of such pieces: each backslash in it begins an escape.
pub record IsPlainText (text : List ℕ) : Type 0 where
  pub plain : list_all is_plain text ≡ true
  pub pieces : List (List ℕ)
  pub escaped : All IsPiece pieces
  pub whole : text ≡ flat_map (λ piece. piece) pieces
