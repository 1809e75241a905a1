-- The first line of an answer.
use Rattle.std.specs.Prelude.{ℕ, ◌==◌, List, ◌++◌, codes, if◌then◌else◌}
use Rattle.std.specs.Fmt.{decimal}
use Rattle.reg_commands.specs.Verdicts.{points_line, verdict_line}
use Rattle.reg_commands.specs.declared.verdicts.Verdict.{Verdict}
use Rattle.reg_commands.specs.declared.verdicts.Verdict.TheVariants.{Yes, No}
use Rattle.reg_commands.specs.declared.verdicts.Verdicts.{Verdicts}

-- how many there are, with the words for one and for more
abbrev pub counted : ℕ → List ℕ → List ℕ → List ℕ
counted n one many = decimal n ++ (if n == 1 then one else many)

-- What an accepted text is: its kind, the numbers of its processes and registers, its front end, and how many events,
-- operations or entries it has.
abbrev pub subject_text : List ℕ → ℕ → ℕ → List ℕ → ℕ → List ℕ → List ℕ → List ℕ
subject_text name processes registers front count one many =
    ((((name ++ counted processes (codes " process, ") (codes " processes, "))
    ++ counted registers (codes " register, ") (codes " registers, "))
    ++ front)
    ++ codes ", ")
    ++ counted count one many

-- the line of the first of two verdicts that is no
abbrev pub no_line : Verdict → Verdicts → List ℕ
no_line Yes v = points_line v.points
no_line (No reason) v = verdict_line (codes "serial") (No reason)

-- the line of the first verdict that is no, where one is
abbrev pub first_no : Verdicts → List ℕ
first_no v = no_line v.serial v
