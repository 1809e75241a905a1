-- How operations are spelled. A further kind of operation adds a line to each of these.
use Rattle.std.specs.Prelude.{ℕ, ◌^◌, ◌<◌, List, [], ◌∷◌, ◌++◌, length, codes, slice_index_or}
use Rattle.std.specs.Fmt.{decimal}
use Rattle.reg_base.specs.declared.memory.Op.{Op}
use Rattle.reg_base.specs.declared.memory.Op.TheVariants.{Read, Write, Swap, CompareAndSwap}
use Rattle.reg_base.specs.declared.memory.Answer.{Answer}
use Rattle.reg_base.specs.declared.memory.Answer.TheVariants.{Done, Value, Unequal}

-- a register's name
abbrev pub name_of : List (List ℕ) → ℕ → List ℕ
name_of names register = slice_index_or names register []

-- a register's name and a value
abbrev pub valued : List (List ℕ) → ℕ → ℕ → List ℕ
valued names register value = name_of names register ++ 32 ∷ decimal value

-- a register's name, the value that is expected there and the value for it
abbrev pub compared : List (List ℕ) → ℕ → ℕ → ℕ → List ℕ
compared names register expected value = name_of names register ++ 32 ∷ (decimal expected ++ 32 ∷ decimal value)

-- the operation in text
abbrev pub op_text : List (List ℕ) → Op → List ℕ
op_text names (Read register) = codes "read " ++ name_of names register
op_text names (Write register value) = codes "write " ++ valued names register value
op_text names (Swap register value) = codes "swap " ++ valued names register value
op_text names (CompareAndSwap register expected value) = codes "cas " ++ compared names register expected value

-- the operation's register has a name, and its values have 64 bits
abbrev pub OpFits : List (List ℕ) → Op → Type 0
OpFits names (Read register) = register < length names
OpFits names (Write register value) = (register < length names) × (value < 2 ^ 64)
OpFits names (Swap register value) = (register < length names) × (value < 2 ^ 64)
OpFits names (CompareAndSwap register expected value) =
    (register < length names) × (expected < 2 ^ 64) × (value < 2 ^ 64)

-- the operation in text, where its register has this name
abbrev pub op_line : List ℕ → Op → List ℕ
op_line name (Read register) = codes "read " ++ name
op_line name (Write register value) = codes "write " ++ name ++ codes " " ++ decimal value
op_line name (Swap register value) = codes "swap " ++ name ++ codes " " ++ decimal value
op_line name (CompareAndSwap register expected value) =
    codes "cas " ++ (name ++ 32 ∷ (decimal expected ++ 32 ∷ decimal value))

-- an answer
abbrev pub answer_text : Answer → List ℕ
answer_text Done = codes "done"
answer_text (Value value) = codes "value " ++ decimal value
answer_text Unequal = codes "unequal"
