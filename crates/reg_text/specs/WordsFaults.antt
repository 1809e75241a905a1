-- The faults of words that are no names. They carry a proof: no promise speaks of them.
use Rattle.std.specs.Prelude.{ℕ, List}
use Rattle.reg_text.specs.declared.words.WordsFault.{WordsFault}
use Rattle.reg_text.specs.declared.words.WordsFault.TheVariants.{Why, OutOfMemory}
use Rattle.reg_text.specs.Words.{IsNamesWhy}

abbrev pub IsWordsWhy : ℕ → List (List ℕ) → WordsFault → Type 0
IsWordsWhy limit ws (Why why) = IsNamesWhy limit ws why
IsWordsWhy limit ws OutOfMemory = ⊥
