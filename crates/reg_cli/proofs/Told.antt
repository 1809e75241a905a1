-- The status of a fault says which line it has.
use Rattle.std.proofs.Common.{◌≡◌, ℕ, List}
use Rattle.reg_cli.specs.declared.faults.WordsFault.{WordsFault}
use Rattle.reg_cli.specs.declared.faults.WordsFault.TheVariants.{CommandLine, OutOfMemory}
use Rattle.reg_cli.specs.Faults.{status_of, words_line}

-- status 2 is told of words that are refused alone
pub refused_told : (fault : WordsFault) (refused : List ℕ) (P : List ℕ → Type 0) → P (words_line refused fault)
    → status_of fault ≡ 2 → P refused
refused_told CommandLine refused P p two = p
refused_told OutOfMemory refused P p two = absurd (cc)
