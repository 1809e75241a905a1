-- The numbers of front ends.
use Rattle.std.specs.Prelude.{ℕ, ◌==◌, Option, Some, None, if◌then◌else◌}
use Rattle.reg_front.specs.declared.named.Front.{Front}
use Rattle.reg_front.specs.declared.named.Front.TheVariants.{Linear, LocalRead, LocalWrite}

-- the front end of a number
abbrev pub front_at : ℕ → Option Front
front_at number =
    (if number == 0 then Some Linear else
    (if number == 1 then Some LocalRead else
    (if number == 2 then Some LocalWrite else None)))
