-- What is wrong with an order of operations, as text.
use Rattle.std.specs.Prelude.{ℕ, List, ◌++◌, codes}
use Rattle.std.specs.Fmt.{decimal}
use Rattle.reg_checkers.specs.declared.faults.CheckFault.{CheckFault}
use Rattle.reg_checkers.specs.declared.faults.CheckFault.TheVariants.{Unknown, Twice, Missing, OwnOrder, Answer}
use Rattle.reg_checkers.specs.declared.faults.CheckFault.TheVariants.{Outside, Falling, OutOfMemory}

abbrev pub check_text : CheckFault → List ℕ
check_text Unknown = codes "unknown"
check_text Twice = codes "twice"
check_text Missing = codes "missing"
check_text OwnOrder = codes "own order"
check_text (Answer place) = codes "answer " ++ decimal place
check_text (Outside place) = codes "outside " ++ decimal place
check_text (Falling place) = codes "falling " ++ decimal place
check_text OutOfMemory = codes "out of memory"
