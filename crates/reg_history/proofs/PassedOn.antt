-- What a question mark passes on.
use Rattle.std.proofs.Common.{◌≡◌, ◌∙◌, Result, Ok, Err}
use Rattle.std.specs.Result.{IfOk, IsErrAnd, MatchResult}
use Rattle.reg_history.specs.declared.report_faults.ReadFault.{ReadFault}
use Rattle.reg_history.specs.declared.report_faults.ReadFault.TheVariants.{OutOfMemory}

-- want of memory is want of memory after it too
pub memory_passed_on : {T : Type 0} (r : Result T ReadFault) (P : T → Type 0) (fault : ReadFault)
    → IsErrAnd r (λ f. f ≡ fault) → fault ≡ OutOfMemory → MatchResult r P (λ f. f ≡ OutOfMemory)
memory_passed_on (Ok x) P fault h e = absurd h
memory_passed_on (Err f) P fault h e = h ∙ e

-- after it nothing was read
pub nothing_read : {T : Type 0} (r : Result T ReadFault) (P : T → Type 0) (fault : ReadFault)
    → IsErrAnd r (λ f. f ≡ fault) → IfOk r P
nothing_read (Ok x) P fault h = absurd h
nothing_read (Err f) P fault h = tt
