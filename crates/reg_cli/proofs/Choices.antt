-- The answers of the words, over what clap's parse gives of them.
use Rattle.std.proofs.Common.{◌≡◌, Bool, true, List, drop, Option, Some, Err, ok_or, refl, sym, ap, subst}
use Rattle.clap.specs.Words.{Text, takes}
use Rattle.clap.specs.declared.error.ErrorKind.{ErrorKind}
use Rattle.clap.specs.declared.error.ErrorKind.TheVariants.{OutOfMemory as NoMemory}
use Rattle.reg_cli.proofs.Chosen.{takes_line}
use Rattle.reg_cli.specs.Faults.{words_fault}
use Rattle.reg_cli.specs.Lines.{IsAnswer, is_fair, line_of, name_of}
use Rattle.reg_cli.specs.Apps.{awreg}
use Rattle.reg_cli.proofs.Lines.{awreg_lines}
use Rattle.reg_cli.specs.declared.words.Asked.{Asked}
use Rattle.reg_cli.specs.declared.faults.WordsFault.{WordsFault}
use Rattle.reg_cli.specs.declared.faults.WordsFault.TheVariants.{CommandLine, OutOfMemory}

-- clap refuses the line of a command only for want of memory
pub refused : (words : List Text) (k : ErrorKind) → (takes awreg words ≡ true → k ≡ NoMemory)
    → IsAnswer (drop 1 words) (Err (words_fault k))
refused words k memory = go (words_fault k) refl
  where
    go : (f : WordsFault) → words_fault k ≡ f → IsAnswer (drop 1 words) (Err f)
    go OutOfMemory is = tt
    go CommandLine is = λ line.
        let out : words_fault k ≡ OutOfMemory = ap words_fault (memory (takes_line name_of is_fair awreg awreg_lines words line.0 line.1)) in
        cc

-- what a name asks for is what the line asks for
pub picked : (line : List Text) (name : Text) (fair : Bool) (found : Option Asked)
    → (x : Asked) × (line ≡ line_of x) × (name_of x ≡ name) × (is_fair x ≡ fair)
    → ((asked : Asked) → name_of asked ≡ name → is_fair asked ≡ fair → found ≡ Some asked) → IsAnswer line (ok_or found CommandLine)
picked line name fair found x picks = subst (λ o. IsAnswer line (ok_or o CommandLine)) (sym (picks x.0 x.2 x.3)) x.1
