-- What a crash leaves of a log before its head is whole. Promises cite it.
use Rattle.std.specs.Prelude.{ℕ, ◌≡◌, ◌==◌, ◌<◌, ◌⊎◌, ◌++◌, ◌∷◌, List, [], codes, count_by, true}
use Rattle.std.specs.Fmt.{decimal}
use Rattle.std.specs.List.{list_all}
use Rattle.reg_node.specs.declared.transcripts.logs.LogId.{LogId}
use Rattle.reg_node.specs.Seals.{first_crc, sealed}

-- The lines of a log that say of which cluster, process and chapter it is. What was drawn when it was begun stands on
-- the next one.
abbrev pub first_lines : LogId → List (List ℕ)
first_lines id =
    codes "tellwydar log 1" ∷ (codes "cluster " ++ decimal id.cluster) ∷ (codes "process " ++ decimal id.process)
    ∷ (codes "chapter " ++ decimal id.chapter) ∷ []

-- these lines, each behind its seal
abbrev pub first_text : LogId → List ℕ
first_text id = sealed first_crc (first_lines id)

-- how many line feeds there are
abbrev pub feeds : List ℕ → ℕ
feeds bytes = count_by (λ b. b == 10) bytes

-- a first part of the text, and zeros behind it: a disk had made room for more
pub record IsPartAndZeros (bytes text : List ℕ) : Type 0 where
  pub part : List ℕ
  pub left : List ℕ
  pub zeros : List ℕ
  pub all : bytes ≡ part ++ zeros
  pub of_text : text ≡ part ++ left
  pub are : list_all (λ b. b == 0) zeros ≡ true

-- the text, and behind it fewer than the five lines that end a head
abbrev pub IsShort : List ℕ → List ℕ → Type 0
IsShort bytes text = (behind : List ℕ) × (bytes ≡ text ++ behind) × (feeds behind < 5)

-- the bytes are what a crash can leave of this log before its head is whole
abbrev pub IsHeadless : LogId → List ℕ → Type 0
IsHeadless id bytes = IsPartAndZeros bytes (first_text id) ⊎ IsShort bytes (first_text id)
