-- What a chapter writes first: the values with which the one before it ended. Promises cite it.
use Rattle.std.specs.Prelude.{ℕ, ◌+◌, ◌==◌, ◌++◌, List, [], ◌∷◌, if◌then◌else◌}
use Rattle.reg_base.specs.declared.memory.Op.{Op}
use Rattle.reg_base.specs.declared.memory.Op.TheVariants.{Write}

-- the write of a register's value, unless that is 0
abbrev pub write_of : ℕ → ℕ → List Op
write_of register value = if value == 0 then [] else Write register value ∷ []

-- those of these values, of which the first is the value of this register
abbrev pub writes_from : ℕ → List ℕ → List Op
writes_from register [] = []
writes_from register (value ∷ values) = write_of register value ++ writes_from (register + 1) values

-- those of the values of all registers, in rising order
abbrev pub opening_of : List ℕ → List Op
opening_of values = writes_from 0 values
