-- The line of each fault on the error stream.
use Rattle.std.specs.Prelude.{ℕ, List, [], ◌∷◌, ◌++◌, codes}
use Rattle.std.specs.Fmt.{decimal}
use Rattle.reg_commands.specs.FaultLines.{fault_line}
use Rattle.reg_judge.specs.declared.rulings.faults.RuleFault.{RuleFault}
use Rattle.reg_judge.specs.declared.rulings.faults.RuleFault.TheVariants.{Full, OutOfPlace, TooWide, Unchecked}
use Rattle.reg_judge.specs.declared.rulings.faults.RuleFault.TheVariants.{NoReport, OutOfMemory}
use Rattle.reg_judge.specs.declared.rulings.faults.RulingFault.{RulingFault}
use Rattle.reg_judge.specs.declared.rulings.faults.RulingFault.TheVariants.{Command, Rule}

-- a fault as text
abbrev pub rule_text : RuleFault → List ℕ
rule_text (Full at) = codes "event " ++ decimal at ++ codes ": more than 64 calls under way"
rule_text (OutOfPlace at) = codes "event " ++ decimal at ++ codes ": out of place"
rule_text (TooWide at) = codes "event " ++ decimal at ++ codes ": too many stages in the search for a point order"
rule_text Unchecked = codes "the point order that was found is none"
rule_text NoReport = codes "beyond the limits of a report"
rule_text OutOfMemory = codes "out of memory"

-- the line of a fault, with its line feed
abbrev pub rule_line : RulingFault → List ℕ
rule_line (Command fault) = fault_line fault
rule_line (Rule fault) = rule_text fault ++ 10 ∷ []
