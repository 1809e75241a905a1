use Rattle.std.proofs.Common.{◌≡◌, drop}
use Rattle.reg_observed.specs.Edn.{behind_blanks}
use Rattle.reg_observed.proofs.edn.behind_blanks.Given as goal

abbrev pub invariant-loop-at : goal.invariant-loop-at
invariant-loop-at l = behind_blanks l.text ≡ behind_blanks (drop l.at l.text)
