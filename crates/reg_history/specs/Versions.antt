-- The versions of the text of a report: how they begin, their limits, and what they may hold. To be believed: promises
-- speak of them.
use Rattle.std.specs.Prelude.{ℕ, Bool, true, false, ◌||◌, List, codes, if◌then◌else◌}
use Rattle.std.specs.List.{list_all}
use Rattle.reg_base.specs.declared.limits.TheConstants.{MOST_PROCESSES, MOST_REGISTERS}
use Rattle.reg_base.specs.declared.memory.Op.{Op}
use Rattle.reg_base.specs.declared.memory.Op.TheVariants.{CompareAndSwap}
use Rattle.reg_base.specs.declared.memory.Answer.{Answer}
use Rattle.reg_base.specs.declared.memory.Answer.TheVariants.{Unequal}
use Rattle.reg_checkers.specs.declared.entries.Entry.{Entry}
use Rattle.reg_checkers.specs.declared.entries.Entry.TheVariants.{Called, Answered}
use Rattle.reg_history.specs.declared.report_limits.TheConstants.{OLDER_PROCESSES, OLDER_REGISTERS}
use Rattle.reg_history.specs.declared.versions.Version.{Version}
use Rattle.reg_history.specs.declared.versions.Version.TheVariants.{One, Two, Three}

abbrev pub most_processes : Version → ℕ
most_processes One = OLDER_PROCESSES
most_processes Two = MOST_PROCESSES
most_processes Three = MOST_PROCESSES

abbrev pub most_registers : Version → ℕ
most_registers One = OLDER_REGISTERS
most_registers Two = MOST_REGISTERS
most_registers Three = MOST_REGISTERS

-- the first line
abbrev pub version_line : Version → List ℕ
version_line One = codes "awreg report 1"
version_line Two = codes "awreg report 2"
version_line Three = codes "awreg report 3"

-- a report of this version may have compare-and-swaps
abbrev pub compares : Version → Bool
compares One = false
compares Two = false
compares Three = true

-- the operation is no compare-and-swap
abbrev pub is_older_op : Op → Bool
is_older_op (CompareAndSwap register expected value) = false
is_older_op op = true

-- the answer is one that other operations have
abbrev pub is_older_answer : Answer → Bool
is_older_answer Unequal = false
is_older_answer answer = true

-- the operation may stand in a report of this version, and so may the answer
abbrev pub may_call : Version → Op → Bool
may_call version op = compares version || is_older_op op

abbrev pub may_answer : Version → Answer → Bool
may_answer version answer = compares version || is_older_answer answer

abbrev pub is_older_entry : Entry → Bool
is_older_entry (Called at id op) = is_older_op op
is_older_entry (Answered at id answer) = is_older_answer answer

-- the version in which a report of these entries is written: 2 where each of them may stand there, and else 3
abbrev pub version_for : List Entry → Version
version_for entries = if list_all is_older_entry entries then Two else Three
