-- Lines behind seals, so that what a crash tore off or a disk damaged is told from what was written. Promises cite it.
use Rattle.std.specs.Prelude.{ℕ, ◌≡◌, ◌-◌, ◌/◌, ◌%◌, ◌==◌, if◌then◌else◌, bit_xor, List, [], ◌∷◌, ◌++◌}
use Rattle.std.specs.Int.{bytes_high_first}
use Rattle.std.specs.List.{fold}
use Rattle.hex.specs.Hex.{encode_lower}
use Rattle.reg_text.specs.Parts.{Lacks}

-- A CRC-32 goes on over one bit of its input: the polynomial is edb88320 in hexadecimal.
unfoldable pub crc_bit : ℕ → ℕ
crc_bit c = if c % 2 == 1 then bit_xor (c / 2) 3988292384 else c / 2

-- and over one byte, from its lowest bit on
unfoldable pub crc_byte : ℕ → ℕ → ℕ
crc_byte c b = crc_bit (crc_bit (crc_bit (crc_bit (crc_bit (crc_bit (crc_bit (crc_bit (bit_xor c b))))))))

-- the register of a CRC-32 after these bytes, if it was c before them
abbrev pub crc_over : ℕ → List ℕ → ℕ
crc_over c bytes = fold crc_byte c bytes

-- its register at first: all bits are ones
abbrev pub first_crc : ℕ
first_crc = 4294967295

-- the CRC-32 itself, with each bit of the register turned, as eight hexadecimal digits in lower case
abbrev pub seal_text : ℕ → List ℕ
seal_text c = encode_lower (bytes_high_first 4 (4294967295 - c))

-- A line behind its seal, which is the CRC-32 of the lines before it and of its own text; and its line feed.
abbrev pub sealed_line : ℕ → List ℕ → List ℕ
sealed_line c line = seal_text (crc_over c line) ++ 32 ∷ (line ++ 10 ∷ [])

-- the register after a line, whose line feed is among what the later seals are of
abbrev pub crc_behind : ℕ → List ℕ → ℕ
crc_behind c line = crc_over c (line ++ 10 ∷ [])

-- these lines, each behind its seal
abbrev pub sealed : ℕ → List (List ℕ) → List ℕ
sealed c [] = []
sealed c (line ∷ lines) = sealed_line c line ++ sealed (crc_behind c line) lines

-- the register after these lines
abbrev pub crc_after : ℕ → List (List ℕ) → ℕ
crc_after c [] = c
crc_after c (line ∷ lines) = crc_after (crc_behind c line) lines

-- the bytes are these lines, each behind its seal, and this is the register after them
pub record IsSealed (bytes : List ℕ) (c : ℕ) (lines : List (List ℕ)) : Type 0 where
  pub text : bytes ≡ sealed first_crc lines
  pub crc : c ≡ crc_after first_crc lines

-- none of them has a line feed
abbrev pub AreLines : List (List ℕ) → Type 0
AreLines [] = Unit {0}
AreLines (line ∷ lines) = Lacks 10 line × AreLines lines

-- no whole line behind its seal stands first in these bytes
abbrev pub IsTorn : ℕ → List ℕ → Type 0
IsTorn c tail = (line rest : List ℕ) → Lacks 10 line → ¬ (tail ≡ sealed_line c line ++ rest)
