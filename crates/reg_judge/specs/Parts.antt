-- The part of a history at one register. To be believed: promises speak of it.
use Rattle.std.specs.Prelude.{ℕ, Bool, false, ◌==◌, ◌&&◌, List, filter}
use Rattle.std.specs.List.{list_any}
use Rattle.reg_base.specs.declared.memory.OpId.{OpId}
use Rattle.reg_base.specs.Memory.{register_of}
use Rattle.reg_checkers.specs.declared.entries.Entry.{Entry}
use Rattle.reg_checkers.specs.declared.entries.Entry.TheVariants.{Called, Answered}

-- whether the entry calls the operation of this id, on the register
abbrev pub calls_on : ℕ → OpId → Entry → Bool
calls_on register id (Called at other op) =
    other.process == id.process && other.number == id.number && register_of op == register
calls_on register id (Answered at other answer) = false

-- whether the entry is of the register: a call on it, or the answer to an operation that was called on it
abbrev pub is_of : ℕ → List Entry → Entry → Bool
is_of register h (Called at id op) = register_of op == register
is_of register h (Answered at id answer) = list_any (calls_on register id) h

-- the entries of the register, as they are, in their order
abbrev pub part_at : ℕ → List Entry → List Entry
part_at register h = filter (is_of register h) h
