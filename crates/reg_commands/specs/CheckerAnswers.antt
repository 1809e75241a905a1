-- What the answers of a checker tell. It carries a proof: no promise speaks of it.
use Rattle.std.specs.Prelude.{◌≡◌, Result, Ok, Err}
use Rattle.reg_checkers.specs.declared.faults.CheckFault.{CheckFault}
use Rattle.reg_commands.specs.declared.verdicts.Verdict.{Verdict}
use Rattle.reg_commands.specs.declared.verdicts.Verdict.TheVariants.{Yes, No}
use Rattle.reg_commands.specs.Verdicts.{fault_of}

-- the verdict of a checker's answer
abbrev pub Tells : {A : Type 0} → Result A CheckFault → Verdict → Type 0
Tells (Ok x) Yes = Unit {0}
Tells (Ok x) (No reason) = ⊥
Tells (Err fault) Yes = ⊥
Tells (Err fault) (No reason) = fault ≡ fault_of reason
